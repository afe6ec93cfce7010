mod DateLemmas
