-- The account: its records and their lines.
use Rattle.std.proofs.Common.{◌≡◌, true, false, List, [], ◌++◌, sym, subst, arith}
use Rattle.std.specs.List.Sorted.{IsStrictlySortedBy}
use Rattle.record_lines.specs.Lines.{AreLegalAfter}
use Rattle.record_lines.proofs.FileLemmas.{legal_both}
use Rattle.at_account.specs.Records.{IsRecordAllowed}
use Rattle.at_account.specs.declared.record.AccountRecord.{AccountRecord}
use Rattle.at_account.specs.declared.line.AccountLine.{AccountLine}
use Rattle.at_account.specs.Totals.{AreTotals, IsAccount, owner_cmp}

none_sorted : IsStrictlySortedBy owner_cmp []
unfolding IsStrictlySortedBy
none_sorted = tt

-- no records have no lines
pub no_account : (records : List AccountRecord) (lines : List AccountLine) → records ≡ [] → lines ≡ [] → IsAccount records lines
no_account records lines none no_lines = subst (λ r. IsAccount r lines) (sym none) (subst (IsAccount []) (sym no_lines) (record {
  in_turn = tt;
  totals = record {
    ordered = none_sorted;
    each = λ line has. absurd (omega (arith, has.1));
    only = λ line has. absurd (omega (arith, has.1));
    all = λ owner seen. let impossible : false ≡ true = seen in cc;
  };
}))

-- new records came after the old ones
pub grown : (old new all : List AccountRecord) (lines : List AccountLine) → all ≡ old ++ new → AreLegalAfter IsRecordAllowed [] old
    → AreLegalAfter IsRecordAllowed old new
    → AreTotals (old ++ new) lines → IsAccount all lines
grown old new all lines is first second totals =
    subst (λ r. IsAccount r lines) (sym is) (record { in_turn = legal_both IsRecordAllowed [] old new first second; totals = totals })
