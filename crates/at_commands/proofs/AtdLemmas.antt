-- A command that requests a daemon.
use Rattle.std.proofs.Common.{◌≡◌, Bool, false, [], ℕ, sym, refl, append-nil, arith}
use Rattle.std.specs.Prelude.{Ok, Err, codes}
use Rattle.at_words.specs.Answers.{Answers}
use Rattle.at_words.specs.declared.fault.WordsFault.{WordsFault}
use Rattle.at_words.specs.declared.fault.WordsFault.TheVariants as words
use Rattle.at_words.specs.declared.tool_request.ToolRequest.TheVariants as request
use Rattle.command_rules.specs.Found.{Asked}
use Rattle.tool_output.specs.Sinks.{SinkAt}
use Rattle.daemon_turn.specs.Daemons.{DaemonState, new_daemon}
use Rattle.listing_text.specs.declared.cause.Cause.{Cause}
use Rattle.listing_text.specs.declared.cause.Cause.TheVariants.{Memory}
use Rattle.serving.specs.Outcomes.{at_a_line}
use Rattle.tool_output.specs.SaidLines.{IsSaid}
use Rattle.serving.specs.Serves.{ServeState, no_turn}
use Rattle.tool_output.specs.Outside.{Telling}
use Rattle.tool_output.proofs.EndLemmas.{silent_same}
use Rattle.at_commands.specs.Served.{IsNotServed, ServesAnew, WhereServed}

-- where no daemon is requested, nothing is said of one
pub none_served : (asked : Asked) (IsSo : ℕ → ℕ → Bool → ℕ → Type 0) → IsNotServed asked → WhereServed asked IsSo
none_served (Ok (request.Submit queue mail file when)) IsSo is = tt
none_served (Ok (request.List filter)) IsSo is = tt
none_served (Ok (request.Remove numbers)) IsSo is = tt
none_served (Ok (request.Show numbers)) IsSo is = tt
none_served (Ok (request.Daemon limit interval once turns)) IsSo is = absurd is
none_served (Ok (request.Make count)) IsSo is = tt
none_served (Err fault) IsSo is = tt

-- no turn was made, since there was no memory to read the words
pub nothing_served : (tells : Telling) (limit interval : ℕ) (once : Bool) (turns : ℕ) (old : DaemonState → ServeState)
    (out err err_new : SinkAt) (final : Cause)
    → IsSaid (codes "atd") tells.errors Memory err err_new final
    → ServesAnew tells limit interval once turns old old out out err err_new final
nothing_served tells limit interval once turns old out err err_new final said = record {
  daemon = new_daemon limit interval;
  serving = record {
    items = [];
    last = old (new_daemon limit interval);
    stop = at_a_line;
    output_failed = false;
    few = omega arith;
    serves = no_turn;
    stops = refl;
    prints = record {
      later = omega arith;
      rose = λ cut. absurd (cc);
      puts = λ known. record { count = 0; content = sym (append-nil out.content); later = omega arith };
    };
    between = err;
    says = λ known. silent_same err err refl;
    outcome = said;
  };
}

-- words that could not be read
words_served_by : (asked : Asked) (fault : WordsFault) (IsSo : ℕ → ℕ → Bool → ℕ → Type 0) → Answers asked (Err fault)
    → ((limit interval : ℕ) (once : Bool) (turns : ℕ) → asked ≡ Ok (request.Daemon limit interval once turns) → fault ≡ words.Memory
    → IsSo limit interval once turns)
    → WhereServed asked IsSo
words_served_by (Ok (request.Submit queue mail file when)) fault IsSo answers so = tt
words_served_by (Ok (request.List filter)) fault IsSo answers so = tt
words_served_by (Ok (request.Remove numbers)) fault IsSo answers so = tt
words_served_by (Ok (request.Show numbers)) fault IsSo answers so = tt
words_served_by (Ok (request.Make count)) fault IsSo answers so = tt
words_served_by (Err other) fault IsSo answers so = tt
words_served_by (Ok (request.Daemon limit interval once turns)) words.Usage IsSo answers so = cc
words_served_by (Ok (request.Daemon limit interval once turns)) words.BadQueue IsSo answers so = cc
words_served_by (Ok (request.Daemon limit interval once turns)) words.Memory IsSo answers so = so limit interval once turns refl refl

pub words_served : (asked : Asked) (fault : WordsFault) (IsSo : ℕ → ℕ → Bool → ℕ → Type 0) → Answers asked (Err fault)
    → ((limit interval : ℕ) (once : Bool) (turns : ℕ) → asked ≡ Ok (request.Daemon limit interval once turns) → fault ≡ words.Memory
    → IsSo limit interval once turns)
    → WhereServed asked IsSo
words_served asked fault IsSo answers so = words_served_by asked fault IsSo answers so
