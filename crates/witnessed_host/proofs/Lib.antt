mod NothingLemmas
mod Walks
