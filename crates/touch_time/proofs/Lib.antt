mod ReaderLemmas
mod TouchLemmas
