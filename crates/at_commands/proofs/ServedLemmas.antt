-- Which words request a daemon, and what is served where they could not be read.
use Rattle.std.proofs.Common.{◌≡◌, ◌≤◌, Bool, true, false, List, [], ◌∷◌, ℕ, sym, subst, ap, refl, arith, lit≤}
use Rattle.std.proofs.lemmas.Bool.Decides.{nat_tests}
use Rattle.std.specs.Prelude.{◌-◌, ◌&&◌, Option, Some, None, Result, Ok, Err, codes, drop, if◌then◌else◌, nat_le, option_map}
use Rattle.clap.specs.Kinds.{Kinds}
use Rattle.clap.specs.Simple.{matches_of}
use Rattle.clap.specs.Faults.{fault_of}
use Rattle.clap.specs.Walk.{Row, Text, first_of}
use Rattle.at_words.specs.Answers.{if_taken, on_ok, or_usage}
use Rattle.at_words.specs.Asked.{action_numbers, at_asked, atq_asked, atrm_asked, batch_asked, filter_asked, has_submission_words, has_two_actions, listing_asked, queue_asked, submission_asked, submit_request, when_asked}
use Rattle.at_words.specs.Commands.{at_app, atd_app, atday_app, atq_app, atrm_app, batch_app}
use Rattle.at_words.specs.Daemons.{atd_asked, atday_asked, daemon_request, interval_asked, limit_asked, turns_asked}
use Rattle.at_words.specs.Digits.{are_decimal_digits, decimal_of, within}
use Rattle.at_words.specs.Requests.{request_by, request_of, request_to}
use Rattle.at_words.specs.Rows.{is_set, operands_of}
use Rattle.at_words.specs.Tools.{tool_of_words}
use Rattle.at_words.specs.declared.fault.WordsFault.{WordsFault}
use Rattle.at_words.specs.declared.fault.WordsFault.TheVariants as words
use Rattle.at_words.specs.declared.filter.Filter.{Filter}
use Rattle.at_words.specs.declared.tool.Tool.{Tool}
use Rattle.at_words.specs.declared.tool.Tool.TheVariants.{At, Batch, Atq, Atrm, Atd, Atday}
use Rattle.at_words.specs.declared.tool_request.ToolRequest.TheVariants as request
use Rattle.at_words.specs.declared.when.When.{When}
use Rattle.command_rules.specs.Found.{Asked}
use Rattle.at_commands.specs.Served.{IsNotServed}
use Rattle.at_commands.specs.Tools.{name_or_at, tool_name_of}

-- one of two
chosen : (P : Asked → Type 0) (which : Bool) (one other : Asked) → P one → P other → P (if which then one else other)
chosen P true one other has had = has
chosen P false one other has had = had

taken : (P : Asked → Type 0) → P (Err words.Usage) → (kinds : Kinds) (asked : Asked) → P asked → P (if_taken kinds asked)
taken P usage [] asked has = has
taken P usage (kind ∷ kinds) asked has = usage

-- The other tools request no daemon.

listed : (filter : Result Filter WordsFault) → IsNotServed (on_ok request.List filter)
listed (Ok filter) = tt
listed (Err fault) = tt

removed : (numbers : Result (List ℕ) WordsFault) → IsNotServed (on_ok request.Remove numbers)
removed (Ok numbers) = tt
removed (Err fault) = tt

shown : (numbers : Result (List ℕ) WordsFault) → IsNotServed (on_ok request.Show numbers)
shown (Ok numbers) = tt
shown (Err fault) = tt

submitted : (when : Option When) (queue : Option ℕ) (mail : Bool) (file : Option Text) → IsNotServed (submit_request when queue mail file)
submitted None queue mail file = tt
submitted (Some when) None mail file = tt
submitted (Some when) (Some queue) mail file = tt

made : (count : Option ℕ) → IsNotServed (or_usage (option_map request.Make count))
made None = tt
made (Some count) = tt

at_rows : (rows : List Row) → IsNotServed (at_asked rows)
at_rows rows =
    chosen IsNotServed (has_two_actions rows) (Err words.Usage) _ tt (
    chosen IsNotServed (is_set (codes "list") rows) (listing_asked rows) _
    (chosen IsNotServed (has_submission_words rows) (Err words.Usage)
    (on_ok request.List (filter_asked (first_of (codes "queue") rows) (operands_of rows))) tt (listed _)) (
    chosen IsNotServed (is_set (codes "remove") rows) (on_ok request.Remove (action_numbers rows)) _ (removed _) (
    chosen IsNotServed (is_set (codes "show") rows) (on_ok request.Show (action_numbers rows)) (submission_asked rows) (shown _)
    (submitted (when_asked (first_of (codes "time") rows) (operands_of rows)) (queue_asked (first_of (codes "queue") rows))
    (is_set (codes "mail") rows) (first_of (codes "file") rows)))))

-- a tool that is no daemon
abbrev pub IsNoDaemon : Tool → Type 0
IsNoDaemon At = Unit {0}
IsNoDaemon Batch = Unit {0}
IsNoDaemon Atq = Unit {0}
IsNoDaemon Atrm = Unit {0}
IsNoDaemon Atd = ⊥
IsNoDaemon Atday = Unit {0}

-- what it is requested is not served
pub not_served_to : (tool : Tool) (texts : List Text) → IsNoDaemon tool → IsNotServed (request_to tool texts)
unfolding request_to
not_served_to At texts is =
    taken IsNotServed tt (fault_of at_app texts) (at_asked (matches_of at_app texts)) (at_rows (matches_of at_app texts))
not_served_to Batch texts is = taken IsNotServed tt (fault_of batch_app texts) (batch_asked (matches_of batch_app texts)) tt
not_served_to Atq texts is = taken IsNotServed tt (fault_of atq_app texts) (atq_asked (matches_of atq_app texts)) (listed _)
not_served_to Atrm texts is = taken IsNotServed tt (fault_of atrm_app texts) (atrm_asked (matches_of atrm_app texts)) (removed _)
not_served_to Atd texts is = absurd is
not_served_to Atday texts is = taken IsNotServed tt (fault_of atday_app texts) (atday_asked (matches_of atday_app texts)) (made _)

-- the words of a tool that is no daemon request none
pub not_served : (texts : List Text) (tool : Tool) (start : ℕ) → tool_of_words texts ≡ Some (tool, start) → IsNoDaemon tool
    → IsNotServed (request_of texts)
not_served texts tool start found is =
    subst (λ (of : Option (Tool × ℕ)). IsNotServed (request_by of texts)) (sym found) (not_served_to tool (drop (start - 1) texts) is)

-- A daemon is requested at least one turn.

abbrev pub HasTurns : Asked → Type 0
HasTurns (Ok (request.Submit queue mail file when)) = Unit {0}
HasTurns (Ok (request.List filter)) = Unit {0}
HasTurns (Ok (request.Remove numbers)) = Unit {0}
HasTurns (Ok (request.Show numbers)) = Unit {0}
HasTurns (Ok (request.Daemon limit interval once turns)) = 1 ≤ turns
HasTurns (Ok (request.Make count)) = Unit {0}
HasTurns (Err fault) = Unit {0}

turns_unserved : (asked : Asked) → IsNotServed asked → HasTurns asked
turns_unserved (Ok (request.Submit queue mail file when)) is = tt
turns_unserved (Ok (request.List filter)) is = tt
turns_unserved (Ok (request.Remove numbers)) is = tt
turns_unserved (Ok (request.Show numbers)) is = tt
turns_unserved (Ok (request.Daemon limit interval once turns)) is = absurd is
turns_unserved (Ok (request.Make count)) is = tt
turns_unserved (Err fault) is = tt

abbrev IsSomeTurn : Option ℕ → Type 0
IsSomeTurn None = Unit {0}
IsSomeTurn (Some turns) = 1 ≤ turns

some_within : (greatest number : ℕ) (is : Bool) → (nat_le 1 number && nat_le number greatest) ≡ is
    → IsSomeTurn (if is then Some number else None)
some_within greatest number true same = (let least : 1 ≤ number = grind (arith, nat_tests) in least)
some_within greatest number false same = tt

some_decimal : (greatest : ℕ) (text : List ℕ) (is : Bool) → IsSomeTurn (if is then within 1 greatest (decimal_of text) else None)
some_decimal greatest text true =
    some_within greatest (decimal_of text) (nat_le 1 (decimal_of text) && nat_le (decimal_of text) greatest) refl
some_decimal greatest text false = tt

some_turns : (text : Option Text) → IsSomeTurn (turns_asked text)
some_turns None = lit≤ tt
some_turns (Some text) = some_decimal _ text (are_decimal_digits 19 text)

daemon_turns : (limit interval : Option ℕ) (once : Bool) (turns : Option ℕ) → IsSomeTurn turns
    → HasTurns (daemon_request limit interval once turns)
daemon_turns None interval once turns some = tt
daemon_turns (Some limit) None once turns some = tt
daemon_turns (Some limit) (Some interval) once None some = tt
daemon_turns (Some limit) (Some interval) once (Some turns) some = some

atd_rows : (rows : List Row) → HasTurns (atd_asked rows)
atd_rows rows =
    daemon_turns (limit_asked (first_of (codes "limit") rows)) (interval_asked (first_of (codes "interval") rows))
    (is_set (codes "once") rows)
    (turns_asked (first_of (codes "turns") rows)) (some_turns (first_of (codes "turns") rows))

atd_turns : (of : List Text) → HasTurns (request_to Atd of)
unfolding request_to
atd_turns of = taken HasTurns tt (fault_of atd_app of) (atd_asked (matches_of atd_app of)) (atd_rows (matches_of atd_app of))

has_turns_to : (tool : Tool) (texts : List Text) → HasTurns (request_to tool texts)
has_turns_to At texts = turns_unserved (request_to At texts) (not_served_to At texts tt)
has_turns_to Batch texts = turns_unserved (request_to Batch texts) (not_served_to Batch texts tt)
has_turns_to Atq texts = turns_unserved (request_to Atq texts) (not_served_to Atq texts tt)
has_turns_to Atrm texts = turns_unserved (request_to Atrm texts) (not_served_to Atrm texts tt)
has_turns_to Atday texts = turns_unserved (request_to Atday texts) (not_served_to Atday texts tt)
has_turns_to Atd texts = atd_turns texts

has_turns_by : (found : Option (Tool × ℕ)) (texts : List Text) → HasTurns (request_by found texts)
has_turns_by None texts = tt
has_turns_by (Some found) texts = has_turns_to found.0 (drop (found.1 - 1) texts)

pub has_turns : (texts : List Text) (limit interval : ℕ) (once : Bool) (turns : ℕ)
    → Ok (request.Daemon limit interval once turns) ≡ request_of texts → 1 ≤ turns
has_turns texts limit interval once turns is = subst HasTurns (sym is) (has_turns_by (tool_of_words texts) texts)

-- where a daemon is requested, its name is that of the tool
daemon_named_by : (texts : List Text) (found : Option (Tool × ℕ)) → tool_of_words texts ≡ found
    → (limit interval : ℕ) (once : Bool) (turns : ℕ)
    → request_by found texts ≡ Ok (request.Daemon limit interval once turns) → tool_name_of texts ≡ codes "atd"
daemon_named_by texts None found limit interval once turns is = cc
daemon_named_by texts (Some (Atd, start)) found limit interval once turns is = ap name_or_at found
daemon_named_by texts (Some (At, start)) found limit interval once turns is =
    absurd (subst IsNotServed is (not_served_to At (drop (start - 1) texts) tt))
daemon_named_by texts (Some (Batch, start)) found limit interval once turns is =
    absurd (subst IsNotServed is (not_served_to Batch (drop (start - 1) texts) tt))
daemon_named_by texts (Some (Atq, start)) found limit interval once turns is =
    absurd (subst IsNotServed is (not_served_to Atq (drop (start - 1) texts) tt))
daemon_named_by texts (Some (Atrm, start)) found limit interval once turns is =
    absurd (subst IsNotServed is (not_served_to Atrm (drop (start - 1) texts) tt))
daemon_named_by texts (Some (Atday, start)) found limit interval once turns is =
    absurd (subst IsNotServed is (not_served_to Atday (drop (start - 1) texts) tt))

pub daemon_named : (texts : List Text) (limit interval : ℕ) (once : Bool) (turns : ℕ)
    → request_of texts ≡ Ok (request.Daemon limit interval once turns) → tool_name_of texts ≡ codes "atd"
daemon_named texts limit interval once turns is = daemon_named_by texts (tool_of_words texts) refl limit interval once turns is
