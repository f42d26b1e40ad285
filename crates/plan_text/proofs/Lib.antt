mod CallLemmas
mod PrintLemmas
