-- The sessions of requests, by what each answers (own).
use Rattle.std.specs.Prelude.{◌≡◌, [], ℕ, Bool, true, List, Result, Ok, IfOk, pos}
use Rattle.at_words.specs.declared.tool_request.ToolRequest.{ToolRequest}
use Rattle.civil_minute.specs.declared.zone.Zone.{Zone}
use Rattle.host_calls.specs.World.{World}
use Rattle.tool_output.specs.declared.caller.Caller.{Caller}
use Rattle.tool_output.specs.declared.command_error.CommandError.{CommandError}
use Rattle.tool_output.specs.Causes.{cause_in}
use Rattle.command_rules.specs.Found.{found_of}
use Rattle.at_commands.specs.inside.SessionOutcome.{Carries, Finding, IsSessionText}
use Rattle.tool_output.specs.Sinks.{PrintsBy, SinkAt}

-- nothing was found outside but the lists of users
abbrev pub lists_alone : Finding
lists_alone = found_of (pos 0) (Ok 0) []

-- the session was carried out for each caller of this user's name
abbrev pub CarriesFor : {T : Type 0} → Bool → Bool → ToolRequest → List ℕ → World → World → Result T CommandError → Type 0
CarriesFor tells alone asked user old new result =
    (caller : Caller) → caller.context.user ≡ user → Carries tells alone asked caller lists_alone old new (cause_in result)

-- a text was made in the session, which is the one that is printed
pub record ListsInSession (tells alone : Bool) (asked : ToolRequest) (caller : Caller) (old new : World)
    (result : Result (List ℕ) CommandError) : Type 0 where
  pub carries : Carries tells alone asked caller lists_alone old new (cause_in result)
  pub text : IfOk result (IsSessionText asked caller (lists_alone carries.allow carries.deny) carries.shown)

-- for each caller of this user's name and with this zone
abbrev pub ListsFor : Bool → Bool → ToolRequest → List ℕ → Zone → World → World → Result (List ℕ) CommandError → Type 0
ListsFor tells alone asked user zone old new result =
    (caller : Caller) → caller.context.user ≡ user → caller.zone ≡ zone → ListsInSession tells alone asked caller old new result

-- the texts were printed in the session
pub record ShowsInSession (tells alone output : Bool) (asked : ToolRequest) (caller : Caller) (old new : World) (was is : SinkAt)
    (result : Result (Unit {0}) CommandError) : Type 0 where
  pub carries : Carries tells alone asked caller lists_alone old new (cause_in result)
  pub prints : tells ≡ true → alone ≡ true → output ≡ true →
      PrintsBy (cause_in result) (IsSessionText asked caller (lists_alone carries.allow carries.deny) carries.shown) was is

abbrev pub ShowsFor : Bool → Bool → Bool → ToolRequest → List ℕ → World → World → SinkAt → SinkAt →
    Result (Unit {0}) CommandError → Type 0
ShowsFor tells alone output asked user old new was is result =
    (caller : Caller) → caller.context.user ≡ user → ShowsInSession tells alone output asked caller old new was is result
