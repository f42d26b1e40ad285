mod TurnLemmas
