-- What is new of a number, by the state of its job.
use Rattle.std.proofs.Common.{◌≡◌, ◌∙◌, ℕ, List, ◌++◌, Option, Some, None, sym, ap, append_assoc}
use Rattle.record_lines.proofs.SayingLemmas.{none_says}
use Rattle.at_account.specs.declared.ledger.RecordState.{RecordState}
use Rattle.at_account.specs.declared.new_records.KnownJob.{KnownJob}
use Rattle.at_account.specs.declared.new_records.Said.{Said}
use Rattle.at_account.specs.declared.record.AccountRecord.{AccountRecord}
use Rattle.at_account.specs.News.{closing_event, events_by, news_of, records_of, said_by, seen_event, start_event}
use Rattle.at_account.specs.Records.{has_closing_record, is_closing_event, is_seeing, is_seen, is_start, has_start_record, is_account_record_of}
use Rattle.at_account.specs.RecordStates.{IsRecordStateAt}

-- the records say what the standing says
record Tells (before : List AccountRecord) (number : ℕ) (said : Said) : Type 0 where
  seen : is_seen number before ≡ said.seen
  started : has_start_record number before ≡ said.started
  closed : has_closing_record number before ≡ said.closed

said_told : (before : List AccountRecord) (number : ℕ) (record_state : Option RecordState) → IsRecordStateAt before number record_state
    → Tells before number (said_by record_state)
said_told before number None holds = record {
  seen = none_says (is_account_record_of number) (λ one. is_seeing one.event) before holds;
  started = none_says (is_account_record_of number) (λ one. is_start one.event) before holds;
  closed = none_says (is_account_record_of number) (λ one. is_closing_event one.event) before holds;
}
said_told before number (Some record_state) holds = record {
  seen = holds.seen;
  started = holds.started;
  closed = holds.closed;
}

-- what is new, by the standing
pub events_told : (before : List AccountRecord) (number : ℕ) (record_state : Option RecordState) (known : Option KnownJob)
    → IsRecordStateAt before number record_state
    → news_of before number known
    ≡ events_by number (said_by record_state).seen (said_by record_state).started (said_by record_state).closed known
events_told before number record_state known holds =
    let told = said_told before number record_state holds in
    ap (λ s. events_by number s (has_start_record number before) (has_closing_record number before) known) told.seen
    ∙ ap (λ s. events_by number (said_by record_state).seen s (has_closing_record number before) known) told.started
    ∙ ap (λ s. events_by number (said_by record_state).seen (said_by record_state).started s known) told.closed

-- the three events, one after the other, are what is new
pub news_added : (before : List AccountRecord) (number : ℕ) (record_state : Option RecordState) (known : Option KnownJob) (said : Said)
    (old one two three : List AccountRecord) → IsRecordStateAt before number record_state → said ≡ said_by record_state
    → one ≡ old ++ records_of number (seen_event said.seen known)
    → two ≡ one ++ records_of number (start_event said.seen said.started said.closed known)
    → three ≡ two ++ records_of number (closing_event said.seen said.closed known)
    → three ≡ old ++ news_of before number known
news_added before number record_state known said old one two three holds is first second third =
    let told = said_told before number record_state holds in
    let seen : is_seen number before ≡ said.seen = told.seen ∙ sym (ap (λ s. s.seen) is) in
    let started : has_start_record number before ≡ said.started = told.started ∙ sym (ap (λ s. s.started) is) in
    let closed : has_closing_record number before ≡ said.closed = told.closed ∙ sym (ap (λ s. s.closed) is) in
    let a : List AccountRecord = records_of number (seen_event said.seen known) in
    let b : List AccountRecord = records_of number (start_event said.seen said.started said.closed known) in
    let d : List AccountRecord = records_of number (closing_event said.seen said.closed known) in
    let all : news_of before number known ≡ (a ++ b) ++ d =
    ap (λ s. events_by number s (has_start_record number before) (has_closing_record number before) known) seen
    ∙ ap (λ s. events_by number said.seen s (has_closing_record number before) known) started
    ∙ ap (λ s. events_by number said.seen said.started s known) closed in
    third ∙ ap (λ t. t ++ d) (second ∙ ap (λ t. t ++ b) first ∙ append_assoc old a b) ∙ append_assoc old (a ++ b) d
    ∙ ap (λ t. old ++ t) (sym all)
