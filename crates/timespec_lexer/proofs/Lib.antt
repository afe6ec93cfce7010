mod NumberLemmas
mod WalkLemmas
mod WordLemmas
mod StandLaws
mod ReadingLaws
