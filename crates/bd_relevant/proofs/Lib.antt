mod AllLemmas
mod CutDownLemmas
mod MissingLemmas
mod SetLemmas
mod ValueLemmas
