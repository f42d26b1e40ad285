mod SubtaskLemmas
