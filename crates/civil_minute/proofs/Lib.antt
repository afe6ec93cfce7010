mod CivilLemmas
mod LaterLemmas
mod MeantLemmas
mod OnlyLemmas
