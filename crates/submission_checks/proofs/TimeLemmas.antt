-- The one time of a submission.
use Rattle.std.proofs.Common.{◌≡◌, ◌+◌, ◌<◌, ℕ, ℤ, List, length, sym, ap, subst, ◌∙◌, refl, inl, inr, arith}
use Rattle.std.specs.Prelude.{Option, Some, None, Result, Ok, Err}
use Rattle.std.proofs.lemmas.Bool.{cases_order}
use Rattle.civil_minute.specs.declared.fault.DateFault.{DateFault}
use Rattle.civil_minute.specs.declared.fault.DateFault.TheVariants as date
use Rattle.civil_minute.specs.declared.zone.Zone.{Zone}
use Rattle.civil_minute.specs.Meant.{IsOnlyMeaning, IsOnlyTouchMeaning, TimespecMeans, TouchMeans}
use Rattle.listing_text.specs.declared.refusal.Refusal.{Refusal}
use Rattle.listing_text.specs.declared.refusal.Refusal.TheVariants.{BadTimeArg, NoSuchDay, OutOfRange, Past, Timespec}
use Rattle.timespec_grammar.specs.declared.timespec.Timespec.{Timespec as Spelled}
use Rattle.timespec_grammar.specs.Grammar.{Spells, tokens_of}
use Rattle.timespec_grammar.specs.Viable.{StopsAt}
use Rattle.timespec_grammar.proofs.ParseLemmas.{spelled_prefix}
use Rattle.timespec_lexer.specs.declared.placed.Placed.{Placed}
use Rattle.timespec_lexer.specs.declared.token.Token.{Token}
use Rattle.timespec_lexer.specs.Tokens.{IsOnlyReading, IsOnlyRefusal, RefusedAt, Tokenizes}
use Rattle.touch_time.specs.declared.touch.TouchTime.{TouchTime}
use Rattle.touch_time.specs.Touch.{SpellsTouch}
use Rattle.tool_output.specs.declared.command_error.CommandError.{CommandError}
use Rattle.command_rules.specs.Times.{IsDated, IsOnly, IsSpecTime, IsTouchTime, no_timespec, no_tokens, no_touch, place_in, timespec, touch_time}
use Rattle.submission_checks.specs.TimeChecks.{IsDatedAs, MeansTime}

-- tokens that stop spell nothing
stops_spell_nothing : (tokens : List Token) (fault : ℕ) (spec : Spelled) → StopsAt tokens fault → Spells tokens spec → ⊥
stops_spell_nothing tokens fault spec stops spells = elim stops.stops [
  | inl inside ↦ inside.1 (spelled_prefix tokens (fault + 1) spec spells)
  | inr end ↦ end.1 spec spells
]

-- they stop at one token
stops_first : (tokens : List Token) (first second : ℕ) → StopsAt tokens first → StopsAt tokens second → first < second → ⊥
stops_first tokens first second before after less = elim before.stops [
  | inl inside ↦ inside.1 (after.prefixes (first + 1) (omega arith))
  | inr end ↦ elim after.stops [
    | inl inside ↦ absurd (let high : second < length tokens = inside.0 in let is : first ≡ length tokens = end.0 in omega arith)
    | inr other ↦ absurd (let high : second ≡ length tokens = other.0 in let is : first ≡ length tokens = end.0 in omega arith)
  ]
]

pub one_stop : (tokens : List Token) (first second : ℕ) → StopsAt tokens first → StopsAt tokens second → first ≡ second
one_stop tokens first second before after = elim (cases_order first second) [
  | inl same ↦ same
  | inr rest ↦ elim rest [
    | inl less ↦ absurd (stops_first tokens first second before after less)
    | inr more ↦ absurd (stops_first tokens second first after before more)
  ]
]

-- a date's answer is one
one_date : (result : Result ℕ DateFault) (a b : Result ℕ Refusal) → IsDated result a → IsDated result b → a ≡ b
one_date (Ok minute) a b first second = first ∙ sym second
one_date (Err date.NoSuchDay) a b first second = first ∙ sym second
one_date (Err date.OutOfRange) a b first second = first ∙ sym second
one_date (Err date.Past) a b first second = first ∙ sym second
one_date (Err date.Memory) a b first second = absurd first

module _ (text : List ℕ) (now : ℤ) (zone : Zone) where
  -- the text has no tokens
  pub only_refused : (place : ℕ) → RefusedAt text place → IsOnlyRefusal text place
      → IsOnly (IsSpecTime text now zone) (Err (Timespec place))
  only_refused place refused sole = record { meant = no_tokens place refused; only = λ other is. unlike other is } where
    unlike : (other : Result ℕ Refusal) → IsSpecTime text now zone other → other ≡ Err (Timespec place)
    unlike other (no_tokens there is) = ap (λ (of : ℕ). Err (Timespec of)) (sole.no_other there is)
    unlike other (no_timespec placed token is stops) = absurd (sole.no_tokens placed is)
    unlike other (timespec placed spec result time is spells means dated) = absurd (sole.no_tokens placed is)

  module _ (placed : List Placed) (tokenizes : Tokenizes text placed) (sole : IsOnlyReading text placed) where
    -- its tokens spell nothing
    pub only_stopped : (token : ℕ) → StopsAt (tokens_of placed) token →
        IsOnly (IsSpecTime text now zone) (Err (Timespec (place_in text placed token)))
    only_stopped token stops = record { meant = no_timespec placed token tokenizes stops; only = λ other is. unlike other is } where
      unlike : (other : Result ℕ Refusal) → IsSpecTime text now zone other → other ≡ Err (Timespec (place_in text placed token))
      unlike other (no_tokens there is) = absurd (sole.never_refused there is)
      unlike other (no_timespec others there is at) =
          let same : others ≡ placed = sole.no_other others is in
          ap (λ (of : List Placed). Err (Timespec (place_in text of there))) same
          ∙ ap (λ (of : ℕ). Err (Timespec (place_in text placed of)))
          (one_stop (tokens_of placed) there token (subst (λ (of : List Placed). StopsAt (tokens_of of) there) same at) stops)
      unlike other (timespec others spec result time is spells means dated) =
          absurd (stops_spell_nothing (tokens_of placed) token spec stops
          (subst (λ (of : List Placed). Spells (tokens_of of) spec) (sole.no_other others is) spells))

    -- its tokens spell a timespec
    pub only_dated : (spec : Spelled) (result : Result ℕ DateFault) (time : Result ℕ Refusal) → Spells (tokens_of placed) spec →
        ((other : Spelled) → Spells (tokens_of placed) other → other ≡ spec) → TimespecMeans spec now zone result →
        IsOnlyMeaning spec now zone result → IsDated result time → IsOnly (IsSpecTime text now zone) time
    only_dated spec result time spells one means only_meaning dated =
        record { meant = timespec placed spec result time tokenizes spells means dated; only = λ other is. unlike other is } where
          unlike : (other : Result ℕ Refusal) → IsSpecTime text now zone other → other ≡ time
          unlike other (no_tokens there is) = absurd (sole.never_refused there is)
          unlike other (no_timespec others there is at) =
              absurd (stops_spell_nothing (tokens_of placed) there spec
              (subst (λ (of : List Placed). StopsAt (tokens_of of) there) (sole.no_other others is) at) spells)
          unlike other (timespec others spelled answer found is spelling meaning date) =
              let same : others ≡ placed = sole.no_other others is in
              let same_spec : spelled ≡ spec = one spelled (subst (λ (of : List Placed). Spells (tokens_of of) spelled) same spelling) in
              let same_answer : answer ≡ result =
              only_meaning answer (subst (λ (of : Spelled). TimespecMeans of now zone answer) same_spec meaning) in
              one_date result other time (subst (λ (of : Result ℕ DateFault). IsDated of other) same_answer date) dated

  -- the text spells no time of -t
  pub only_untouched : ((touch : TouchTime) → ¬ SpellsTouch text touch) → IsOnly (IsTouchTime text now zone) (Err BadTimeArg)
  only_untouched none = record { meant = no_touch none; only = λ other is. unlike other is } where
    unlike : (other : Result ℕ Refusal) → IsTouchTime text now zone other → other ≡ Err BadTimeArg
    unlike other (no_touch also) = refl
    unlike other (touch_time touch result time spells means dated) = absurd (none touch spells)

  -- the text spells one
  pub only_touched : (touch : TouchTime) (result : Result ℕ DateFault) (time : Result ℕ Refusal) → SpellsTouch text touch →
      ((other : TouchTime) → SpellsTouch text other → other ≡ touch) → TouchMeans touch now zone result →
      IsOnlyTouchMeaning touch now zone result → IsDated result time → IsOnly (IsTouchTime text now zone) time
  only_touched touch result time spells one means only_meaning dated =
      record { meant = touch_time touch result time spells means dated; only = λ other is. unlike other is } where
        unlike : (other : Result ℕ Refusal) → IsTouchTime text now zone other → other ≡ time
        unlike other (no_touch none) = absurd (none touch spells)
        unlike other (touch_time spelled answer found spelling meaning date) =
            let same : spelled ≡ touch = one spelled spelling in
            let same_answer : answer ≡ result =
            only_meaning answer (subst (λ (of : TouchTime). TouchMeans of now zone answer) same meaning) in
            one_date result other time (subst (λ (of : Result ℕ DateFault). IsDated of other) same_answer date) dated

-- a date's answer is the one time of a command
pub means_dated : (IsTime : Result ℕ Refusal → Type 0) (result : Result ℕ DateFault) (answer : Result ℕ CommandError) →
    ((time : Result ℕ Refusal) → IsDated result time → IsOnly IsTime time) → IsDatedAs result answer → MeansTime IsTime answer
means_dated IsTime (Ok minute) answer only is = rw is (only (Ok minute) refl)
means_dated IsTime (Err date.NoSuchDay) answer only is = rw is (record { time = only (Err NoSuchDay) refl; comes = inr refl })
means_dated IsTime (Err date.OutOfRange) answer only is = rw is (record { time = only (Err OutOfRange) refl; comes = inr refl })
means_dated IsTime (Err date.Past) answer only is = rw is (record { time = only (Err Past) refl; comes = inr refl })
means_dated IsTime (Err date.Memory) answer only is = rw is tt

-- the minute of a timespec
pub spec_dated : (text : List ℕ) (now given : ℤ) (zone : Zone) (placed others : List Placed) (spec : Spelled) (result : Result ℕ DateFault)
    (answer : Result ℕ CommandError) → placed ≡ others → Tokenizes text others → IsOnlyReading text others
    → Spells (tokens_of placed) spec →
    ((other : Spelled) → Spells (tokens_of placed) other → other ≡ spec) → given ≡ now → TimespecMeans spec given zone result →
    IsOnlyMeaning spec given zone result → IsDatedAs result answer → MeansTime (IsSpecTime text now zone) answer
spec_dated text now given zone placed others spec result answer same_tokens tokenizes sole spells one same means only dated =
    means_dated (IsSpecTime text now zone) result answer
    (λ time is. only_dated text now zone placed
    (subst (λ (of : List Placed). Tokenizes text of) (sym same_tokens) tokenizes)
    (subst (λ (of : List Placed). IsOnlyReading text of) (sym same_tokens) sole) spec result time spells one
    (subst (λ (of : ℤ). TimespecMeans spec of zone result) same means)
    (subst (λ (of : ℤ). IsOnlyMeaning spec of zone result) same only) is)
    dated

-- tokens that spell no timespec
pub spec_stopped : (text : List ℕ) (now : ℤ) (zone : Zone) (placed others : List Placed) (token : ℕ) → placed ≡ others →
    Tokenizes text others → IsOnlyReading text others → StopsAt (tokens_of placed) token →
    IsOnly (IsSpecTime text now zone) (Err (Timespec (place_in text placed token)))
spec_stopped text now zone placed others token same_tokens tokenizes sole stops =
    only_stopped text now zone placed (subst (λ (of : List Placed). Tokenizes text of) (sym same_tokens) tokenizes)
    (subst (λ (of : List Placed). IsOnlyReading text of) (sym same_tokens) sole) token stops

-- the time that is read is the one that is spelled
one_touch : (answer : Option TouchTime) (touch other : TouchTime) → answer ≡ Some touch → answer ≡ Some other → other ≡ touch
one_touch answer touch other is also = cc

-- the minute of a time of -t
pub touch_dated : (text : List ℕ) (now given : ℤ) (zone : Zone) (touch : TouchTime) (read : Option TouchTime) (result : Result ℕ DateFault)
    (answer : Result ℕ CommandError) → read ≡ Some touch → SpellsTouch text touch
    → ((time : TouchTime) → SpellsTouch text time → read ≡ Some time) →
    given ≡ now → TouchMeans touch given zone result → IsOnlyTouchMeaning touch given zone result → IsDatedAs result answer →
    MeansTime (IsTouchTime text now zone) answer
touch_dated text now given zone touch read result answer is spells only_read same means only dated =
    means_dated (IsTouchTime text now zone) result answer
    (λ time dates.
    only_touched text now zone touch result time spells (λ other spelled. one_touch read touch other is (only_read other spelled))
    (subst (λ (of : ℤ). TouchMeans touch of zone result) same means)
    (subst (λ (of : ℤ). IsOnlyTouchMeaning touch of zone result) same only) dates)
    dated

-- no time of -t was read
pub touch_unread : (text : List ℕ) (now : ℤ) (zone : Zone) (read : Option TouchTime) → read ≡ None →
    ((time : TouchTime) → SpellsTouch text time → read ≡ Some time) → IsOnly (IsTouchTime text now zone) (Err BadTimeArg)
touch_unread text now zone read none only_read =
    only_untouched text now zone (λ touch spells. let two : None ≡ Some touch = sym none ∙ only_read touch spells in cc)
