mod ChildLemmas
mod FillLemmas
mod PathLemmas
mod PrefixLemmas
