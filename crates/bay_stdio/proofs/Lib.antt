mod LogLemmas
mod OutputLemmas
