-- The words of a time (POSIX.1-2017, XCU, at: timespec), and the tokens that they are. `teatime` is from Debian's at(1).
use Rattle.std.specs.Prelude.{ℕ, List, [], ◌∷◌, codes}
use Rattle.timespec_lexer.specs.declared.period.Period.TheVariants as Period
use Rattle.timespec_lexer.specs.declared.token.Token.{Token}
use Rattle.timespec_lexer.specs.declared.token.Token.TheVariants.{Now, Noon, Midnight, Teatime, Today, Tomorrow, Next, Am, Pm, Utc, Month, Weekday, Unit}

-- each keyword in lower case, and its token
unfoldable pub keywords : List (List ℕ × Token)
keywords =
    (codes "now", Now) ∷ (codes "noon", Noon) ∷ (codes "midnight", Midnight) ∷ (codes "teatime", Teatime) ∷
    (codes "today", Today) ∷ (codes "tomorrow", Tomorrow) ∷ (codes "next", Next) ∷
    (codes "am", Am) ∷ (codes "pm", Pm) ∷ (codes "utc", Utc) ∷ (codes "january", Month 1) ∷
    (codes "jan", Month 1) ∷ (codes "february", Month 2) ∷ (codes "feb", Month 2) ∷
    (codes "march", Month 3) ∷ (codes "mar", Month 3) ∷ (codes "april", Month 4) ∷
    (codes "apr", Month 4) ∷ (codes "may", Month 5) ∷ (codes "june", Month 6) ∷
    (codes "jun", Month 6) ∷ (codes "july", Month 7) ∷ (codes "jul", Month 7) ∷
    (codes "august", Month 8) ∷ (codes "aug", Month 8) ∷ (codes "september", Month 9) ∷
    (codes "sep", Month 9) ∷ (codes "october", Month 10) ∷ (codes "oct", Month 10) ∷
    (codes "november", Month 11) ∷ (codes "nov", Month 11) ∷ (codes "december", Month 12) ∷
    (codes "dec", Month 12) ∷ (codes "sunday", Weekday 0) ∷ (codes "sun", Weekday 0) ∷
    (codes "monday", Weekday 1) ∷ (codes "mon", Weekday 1) ∷ (codes "tuesday", Weekday 2) ∷
    (codes "tue", Weekday 2) ∷ (codes "wednesday", Weekday 3) ∷ (codes "wed", Weekday 3) ∷
    (codes "thursday", Weekday 4) ∷ (codes "thu", Weekday 4) ∷ (codes "friday", Weekday 5) ∷
    (codes "fri", Weekday 5) ∷ (codes "saturday", Weekday 6) ∷ (codes "sat", Weekday 6) ∷
    (codes "minute", Unit Period.Minute) ∷ (codes "minutes", Unit Period.Minute) ∷
    (codes "hour", Unit Period.Hour) ∷ (codes "hours", Unit Period.Hour) ∷
    (codes "day", Unit Period.Day) ∷ (codes "days", Unit Period.Day) ∷
    (codes "week", Unit Period.Week) ∷ (codes "weeks", Unit Period.Week) ∷
    (codes "month", Unit Period.Month) ∷ (codes "months", Unit Period.Month) ∷
    (codes "year", Unit Period.Year) ∷ (codes "years", Unit Period.Year) ∷ []
