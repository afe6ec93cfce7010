pub mod DayParts
