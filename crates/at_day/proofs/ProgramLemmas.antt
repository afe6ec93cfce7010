-- How words of atday end, put together from the day that was made and the line of the cause.
use Rattle.std.proofs.Common.{◌≡◌, ◌⊎◌, ◌++◌, ℕ, Bool, true, List, length, sym, ap, subst, ◌∙◌, refl, inl, inr, arith, append-nil}
use Rattle.std.specs.Prelude.{Result, Ok, Err, IsErrAnd}
use Rattle.std.proofs.Math.Seq.{take-length}
use Rattle.std.specs.List.{concat}
use Rattle.at_words.specs.Answers.{Answers}
use Rattle.at_words.specs.declared.fault.WordsFault.{WordsFault}
use Rattle.at_words.specs.declared.fault.WordsFault.TheVariants as words
use Rattle.at_words.specs.declared.tool_request.ToolRequest.{ToolRequest}
use Rattle.at_words.specs.declared.tool_request.ToolRequest.TheVariants as request
use Rattle.tool_output.specs.Causes.{words_cause}
use Rattle.command_rules.specs.Ends.{FailsToPrint}
use Rattle.command_rules.specs.Found.{Asked}
use Rattle.tool_output.specs.Sinks.{EndsLine, IsCut, IsPut, IsPutInPart, IsPutOrCut, IsSilent, SinkAt, sink_at}
use Rattle.host_calls.specs.Sink.{Outlet}
use Rattle.host_calls.specs.declared.fault.SinkFault.{SinkFault}
use Rattle.host_calls.specs.declared.fault.SinkFault.TheVariants as sink
use Rattle.listing_text.specs.Cause.{cause_line_of}
use Rattle.listing_text.specs.declared.cause.Cause.{Cause}
use Rattle.listing_text.specs.declared.cause.Cause.TheVariants.{Done, Refused, OutputFault, Memory}
use Rattle.tool_output.specs.SaidLines.{IsSaid, SaysLine}
use Rattle.tool_output.specs.PutLines.{PutsLines}
use Rattle.at_day.specs.declared.counts.Counts.{Counts}
use Rattle.at_day.specs.Laws.{MadeDaysAreReported}
use Rattle.at_day.specs.Lines.{day_lines}
use Rattle.at_day.specs.MadeDays.{ComesTo}
use Rattle.at_day.specs.Programs.{EndsDay, EndsMade, EndsRefused}
use Rattle.at_day.specs.inside.DayParts.{PutsDay}
use Rattle.at_day.proofs.RequestLemmas.{IsDayAsked}

unchecked : (at : SinkAt) → IsSilent at at
unchecked at = record { content = refl; later = omega arith }

-- Prefixes.

whole_in_part : (text : List ℕ) (old new : SinkAt) → IsPut text old new → IsPutInPart text old new
whole_in_part text old new put = record {
  count = length text;
  content = put.content ∙ ap (λ (prefix : List ℕ). old.content ++ prefix) (sym (take-length text));
  later = put.later;
}

cut_in_part : (text : List ℕ) (old new : SinkAt) → IsCut text old new → IsPutInPart text old new
cut_in_part text old new cut = record { count = cut.count; content = cut.content; later = cut.later }

none_in_part : (text : List ℕ) (old new : SinkAt) → IsSilent old new → IsPutInPart text old new
none_in_part text old new quiet = record { count = 0; content = quiet.content ∙ sym (append-nil old.content); later = quiet.later }

-- The lines that were put.

pub day_put : (tells : Bool) (count : ℕ) (counts : Counts) (old new : SinkAt) (result : Result (Unit {0}) SinkFault) →
    ComesTo count counts → PutsLines tells (concat (day_lines count counts)) old new result → PutsDay tells count old new result
day_put tells count counts old new (Ok done) comes puts = record { counts = counts; comes = comes; puts = puts.puts }
day_put tells count counts old new (Err sink.Failed) comes puts = (
  puts.failed refl,
  record { counts = counts; comes = comes; puts = λ known. cut_in_part (concat (day_lines count counts)) old new (puts.puts known) },
)
day_put tells count counts old new (Err sink.Memory) comes puts = inr (record { counts = counts; comes = comes; puts = puts.puts })

-- memory ran out before the first of them
pub day_stopped : (tells : Bool) (count : ℕ) (at : SinkAt) (result : Result (Unit {0}) SinkFault)
    → IsErrAnd result (λ why. why ≡ sink.Memory) →
    PutsDay tells count at at result
day_stopped tells count at (Ok done) is = absurd is
day_stopped tells count at (Err why) is =
    subst (λ (of : SinkFault). PutsDay tells count at at (Err of)) (sym is) (inl (λ known. unchecked at))

-- What was requested.

pub ends_asked : (tells : Bool) (asked : Asked) (made : ToolRequest) (count : ℕ) (old new : SinkAt) (cause : Cause) →
    Ok made ≡ asked → made ≡ request.Make count → EndsMade tells count old new cause → EndsDay tells asked old new cause
ends_asked tells asked made count old new cause is made_is ends =
    subst (λ (of : Asked). EndsDay tells of old new cause) (sym (ap (λ (of : ToolRequest). Ok of) made_is) ∙ is) ends

unread : (tells : Bool) (asked : Asked) (at : SinkAt) → IsDayAsked asked → EndsDay tells asked at at Memory
unread tells (Ok (request.Make count)) at is = inl (λ known. unchecked at)
unread tells (Err words.Usage) at is = record { refused = inr refl; nothing = λ known. unchecked at }
unread tells _ at is = absurd is

pub ends_unasked : (tells : Bool) (asked : Asked) (fault : WordsFault) (at : SinkAt) → IsDayAsked asked →
    Answers {T = ToolRequest} asked (Err fault) → EndsDay tells asked at at (words_cause fault)
ends_unasked tells asked words.Usage at is answers =
    subst (λ (of : Asked). EndsDay tells of at at (words_cause words.Usage)) answers
    (record { refused = inl refl; nothing = λ known. unchecked at })
ends_unasked tells asked words.BadQueue at is answers = absurd (subst IsDayAsked (sym answers) is)
ends_unasked tells asked words.Memory at is answers = unread tells asked at is

-- The line of the cause.

module _ (tells : Bool) (count : ℕ) (old new : SinkAt) where
  made_without_line : (cause : Cause) → EndsMade tells count old new cause → EndsMade tells count old new Memory
  made_without_line Done ends = inr (record {
    counts = ends.counts;
    comes = ends.comes;
    puts = λ known. whole_in_part (concat (day_lines count ends.counts)) old new (ends.puts known);
  })
  made_without_line OutputFault ends = inr ends.1
  made_without_line Memory ends = ends
  made_without_line _ ends = absurd ends

module _ (tells : Bool) (old new : SinkAt) (cause : Cause) where
  without_line : (asked : Asked) → EndsDay tells asked old new cause → EndsDay tells asked old new Memory
  without_line (Ok (request.Make count)) ends = made_without_line tells count old new cause ends
  without_line (Err words.Usage) ends = record { refused = inr refl; nothing = ends.nothing }
  without_line _ ends = absurd ends

  pub day_said : (asked : Asked) (final : Cause) → (final ≡ cause) ⊎ (final ≡ Memory) → EndsDay tells asked old new cause →
      EndsDay tells asked old new final
  day_said asked final (inl same) ends = subst (λ (of : Cause). EndsDay tells asked old new of) (sym same) ends
  day_said asked final (inr lacks) ends = subst (λ (of : Cause). EndsDay tells asked old new of) (sym lacks) (without_line asked ends)

module _ (tool : List ℕ) (old new : SinkAt) where
  line_part : IsPutOrCut (cause_line_of tool Memory) old new → IsPutInPart (cause_line_of tool Memory) old new
  line_part (inl put) = whole_in_part (cause_line_of tool Memory) old new put
  line_part (inr cut) = cut_in_part (cause_line_of tool Memory) old new cut

  line_ends : (cause : Cause) → SaysLine tool cause old new → EndsLine tool cause old new
  line_ends Memory says = line_part says
  line_ends _ says = says

  pub line_said : (tells : Bool) (cause final : Cause) → IsSaid tool tells cause old new final → tells ≡ true →
      EndsLine tool final old new
  line_said tells cause final (inl as_is) known =
      subst (λ (of : Cause). EndsLine tool of old new) (sym as_is.0) (line_ends cause (as_is.1 known))
  line_said tells cause final (inr lacks) known =
      subst (λ (of : Cause). EndsLine tool of old new) (sym lacks.1) (none_in_part (cause_line_of tool Memory) old new (lacks.2 known))

-- What a cause of these words can be.

abbrev pub IsDayCause : Cause → Type 0
IsDayCause Done = Unit {0}
IsDayCause (Refused refusal) = Unit {0}
IsDayCause OutputFault = Unit {0}
IsDayCause Memory = Unit {0}
IsDayCause _ = ⊥

module _ (tells : Bool) (old new : SinkAt) where
  made_cause : (count : ℕ) (cause : Cause) → EndsMade tells count old new cause → IsDayCause cause
  made_cause count Done ends = tt
  made_cause count OutputFault ends = tt
  made_cause count Memory ends = tt
  made_cause count (Refused refusal) ends = tt
  made_cause count _ ends = absurd ends

  refused_cause : (cause : Cause) → EndsRefused tells old new cause → IsDayCause cause
  refused_cause cause ends = elim ends.refused [
    | inl refused ↦ subst IsDayCause (sym refused) tt
    | inr lacks ↦ subst IsDayCause (sym lacks) tt
  ]

  pub day_cause : (asked : Asked) (cause : Cause) → EndsDay tells asked old new cause → IsDayCause cause
  day_cause (Ok (request.Make count)) cause ends = made_cause count cause ends
  day_cause (Err words.Usage) cause ends = refused_cause cause ends
  day_cause _ cause ends = absurd ends

  pub no_such_cause : (asked : Asked) (cause other : Cause) → EndsDay tells asked old new cause → (IsDayCause other → ⊥) →
      cause ≡ other → ⊥
  no_such_cause asked cause other ends none same = none (subst IsDayCause same (day_cause asked cause ends))

refused_fails : (tells : Bool) (old new : SinkAt) → EndsRefused tells old new OutputFault → ⊥
refused_fails tells old new ends = elim ends.refused [ inl refused ↦ (cc) | inr lacks ↦ (cc) ]

fails : (tells : Bool) (out_old out_new err_old err_new : Outlet) (old new : List ℕ) (asked : Asked) →
    EndsDay tells asked (sink_at old out_old) (sink_at new out_new) OutputFault → FailsToPrint asked out_old out_new err_old err_new
fails tells out_old out_new err_old err_new old new (Ok (request.Make count)) ends = ends.0
fails tells out_old out_new err_old err_new old new (Err words.Usage) ends =
    absurd (refused_fails tells (sink_at old out_old) (sink_at new out_new) ends)
fails tells out_old out_new err_old err_new old new _ ends = absurd ends

pub day_fails : (tells : Bool) (out_old out_new err_old err_new : Outlet) (old new : List ℕ) (asked : Asked) (cause : Cause) →
    EndsDay tells asked (sink_at old out_old) (sink_at new out_new) cause → cause ≡ OutputFault →
    FailsToPrint asked out_old out_new err_old err_new
day_fails tells out_old out_new err_old err_new old new asked cause ends same =
    fails tells out_old out_new err_old err_new old new asked
    (subst (λ (of : Cause). EndsDay tells asked (sink_at old out_old) (sink_at new out_new) of) same ends)

-- The law.

pub made_days_are_reported : MadeDaysAreReported
made_days_are_reported tells count old new Done ends none = inl refl
made_days_are_reported tells count old new Memory ends none = inr refl
made_days_are_reported tells count old new OutputFault ends none = absurd (none ends.0)
made_days_are_reported tells count old new _ ends none = absurd ends
