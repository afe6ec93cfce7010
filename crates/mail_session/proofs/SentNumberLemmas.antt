-- The numbers of notices that are sent: each occurs once, and fits eight digits.
use Rattle.std.proofs.Common.{◌≡◌, ◌∙◌, ◌++◌, ◌<◌, ℕ, Bool, true, false, List, Option, Some, None, [], ◌∷◌, append_assoc, drop, map, refl, sym, ap, subst, inl, inr, arith}
use Rattle.std.specs.Prelude.{◌==◌, AllPairs, Contains, nat_eq, not}
use Rattle.std.specs.Cmp.Lexicographic.{bytes_decides, pointwise}
use Rattle.std.specs.List.{cons_option, filter_map, list_any}
use Rattle.std.proofs.lemmas.Bool.{and_parts, not-true, or_parts}
use Rattle.std.proofs.lemmas.Bool.Decides.{nat_tests}
use Rattle.at_words.specs.Numbers.{are_distinct}
use Rattle.host_calls.specs.declared.child.Handed.{Handed}
use Rattle.spool_model.specs.declared.entry.Entry.TheVariants.{Done, Live}
use Rattle.spool_model.specs.declared.fate.Fate.TheVariants.{Finished, Interrupted, Removed}
use Rattle.spool_model.specs.JobTable.{JobEntry, JobTable, entry_at}
use Rattle.spool_shows.proofs.Membership.{Has, contained, given_has, has_contained, has_left, none_some, one_passes}
use Rattle.step_runs.proofs.ApartLemmas.{pairs_cons, pairs_head, pairs_nil, pairs_tail}
use Rattle.mail_notes.specs.declared.note.Note.{Note}
use Rattle.mail_notes.specs.declared.note.Note.TheVariants.{Dropped, Noted, Sent}
use Rattle.mail_notes.specs.declared.note.NotedJob.{NotedJob}
use Rattle.mail_notes.specs.Hands.{SendsNotices, Mailing}
use Rattle.mail_notes.specs.Lines.{Fits, IsNote, SpellsNote}
use Rattle.mail_notes.specs.Names.{notice_file}
use Rattle.mail_notes.proofs.OneText.{one_number}
use Rattle.record_lines.specs.Lines.{AreSpelled}
use Rattle.mail_notes.specs.Notes.{IsNotesPrefix}
use Rattle.mail_session.specs.declared.due.NoticeDue.{NoticeDue}
use Rattle.mail_session.specs.declared.due.NoticeDue.TheVariants.{Drop, Send}
use Rattle.mail_session.specs.declared.plan.MailPlan.{MailPlan}
use Rattle.mail_session.specs.Dues.{notes_of, sent_numbers}
use Rattle.mail_session.specs.SessionOutcome.{GivesNotes}
use Rattle.mail_session.specs.News.{noting_of}
use Rattle.mail_session.specs.NoticeFiles.{is_notice_of}
use Rattle.mail_session.specs.Steps.{AreDuesOf, due_of_entry}
use Rattle.mail_session.specs.inside.SessionWork.{steps_by}
use Rattle.mail_session.proofs.PostLemmas.{sent_join}

pub above : (number : ℕ) (others : List ℕ) → ((other : ℕ) → Has others other → number < other)
    → list_any (λ other. other == number) others ≡ false
above number [] each = refl
above number (first ∷ others) each =
    let less : number < first = each first (inl refl) in
    let apart : (first == number) ≡ false = grind (arith, nat_tests) in
    rw apart (above number others (λ other has. each other (inr has)))

abbrev pub due_number : NoticeDue → ℕ
due_number (Send job end) = job.number
due_number (Drop number) = number

abbrev pub number_or : Option NoticeDue → ℕ
number_or None = 0
number_or (Some due) = due_number due

-- what is due of a job has its number
pub number_due : (job : NotedJob) (held : Option JobEntry) (due : NoticeDue) → due_of_entry job held ≡ Some due
    → due_number due ≡ job.number
number_due job None due same = sym (ap number_or same)
number_due job (Some (Live live state)) due same = absurd (none_some due same)
number_due job (Some (Done (Finished ending))) due same = sym (ap number_or same)
number_due job (Some (Done Interrupted)) due same = sym (ap number_or same)
number_due job (Some (Done Removed)) due same = sym (ap number_or same)

pub has_sent : (due_notices : List NoticeDue) (number : ℕ) → Has (sent_numbers (notes_of due_notices)) number
    → (due : NoticeDue) × Has due_notices due × (due_number due ≡ number)
has_sent [] number has = absurd has
has_sent (Send job end ∷ later) number (inl same) = (Send job end, inl refl, same)
has_sent (Send job end ∷ later) number (inr has) = let from = has_sent later number has in (from.0, inr from.1, from.2)
has_sent (Drop other ∷ later) number has = let from = has_sent later number has in (from.0, inr from.1, from.2)

abbrev pub AreDuesAscending : List NoticeDue → Type 0
AreDuesAscending due_notices = AllPairs (λ one other. due_number one < due_number other) due_notices

pub distinct_sent : (due_notices : List NoticeDue) → AreDuesAscending due_notices
    → are_distinct (sent_numbers (notes_of due_notices)) ≡ true
distinct_sent [] rise = refl
distinct_sent (Send job end ∷ later) rise =
    let apart : list_any (λ other. other == job.number) (sent_numbers (notes_of later)) ≡ false =
    above job.number (sent_numbers (notes_of later)) (λ other has.
    let from = has_sent later other has in
    subst (λ (n : ℕ). job.number < n) from.2
    (pairs_head (λ (one other : NoticeDue). due_number one < due_number other) (Send job end) later rise from.0 from.1)) in
    rw apart (distinct_sent later (pairs_tail (λ (one other : NoticeDue). due_number one < due_number other) (Send job end) later rise))
distinct_sent (Drop number ∷ later) rise =
    distinct_sent later (pairs_tail (λ (one other : NoticeDue). due_number one < due_number other) (Drop number) later rise)

module _ (table : JobTable) where
  abbrev due_in : NotedJob → Option NoticeDue
  due_in job = due_of_entry job (entry_at table job.number)

  rise_more : (job : NotedJob) (later : List NotedJob) → ((other : NotedJob) → Has later other → job.number < other.number)
      → AreDuesAscending (filter_map due_in later) →
      (due : Option NoticeDue) → due_in job ≡ due → AreDuesAscending (cons_option due (filter_map due_in later))
  rise_more job later less rest None is = rest
  rise_more job later less rest (Some due) is =
      pairs_cons (λ (one other : NoticeDue). due_number one < due_number other) due (filter_map due_in later) (λ other has.
      let from = given_has due_in later other has in
      subst (λ (n : ℕ). n < due_number other) (sym (number_due job (entry_at table job.number) due is))
      (subst (λ (n : ℕ). job.number < n) (sym (number_due from.0 (entry_at table from.0.number) other from.2)) (less from.0 from.1))) rest

  rise_all : (jobs : List NotedJob) → AllPairs (λ one other. one.number < other.number) jobs → AreDuesAscending (filter_map due_in jobs)
  rise_all [] rise = pairs_nil (λ (one other : NoticeDue). due_number one < due_number other)
  rise_all (job ∷ later) rise =
      rise_more job later (λ other has. pairs_head (λ (one other : NotedJob). one.number < other.number) job later rise other has)
      (rise_all later (pairs_tail (λ (one other : NotedJob). one.number < other.number) job later rise)) (due_in job) refl

pub any_first : (test : ℕ → Bool) (xs ys : List ℕ) → list_any test (xs ++ ys) ≡ false → list_any test xs ≡ false
any_first test [] ys none = refl
any_first test (x ∷ xs) ys none = let parts = or_parts (test x) (list_any test (xs ++ ys)) none in rw parts.0 (any_first test xs ys parts.1)

pub distinct_first : (xs ys : List ℕ) → are_distinct (xs ++ ys) ≡ true → are_distinct xs ≡ true
distinct_first [] ys distinct = refl
distinct_first (x ∷ xs) ys distinct =
    let parts = and_parts (not (list_any (λ other. other == x) (xs ++ ys))) (are_distinct (xs ++ ys)) distinct in
    let apart : list_any (λ other. other == x) xs ≡ false =
    any_first (λ other. other == x) xs ys (not-true (list_any (λ other. other == x) (xs ++ ys)) parts.0) in
    rw apart (distinct_first xs ys parts.1)

pub sent_noting : (new_jobs : List NotedJob) (later : List Note) → sent_numbers (noting_of new_jobs ++ later) ≡ sent_numbers later
sent_noting [] later = refl
sent_noting (job ∷ new_jobs) later = sent_noting new_jobs later

-- the numbers of the notices that were sent differ
pub sent_differ : (table : JobTable) (notes : List Note) (plan : MailPlan) (made next : List Note)
    → AreDuesOf table notes plan.due_notices.items → IsNotesPrefix (made ++ next) (steps_by plan) →
    are_distinct (sent_numbers made) ≡ true
sent_differ table notes plan made next are first =
    let all : are_distinct (sent_numbers (steps_by plan)) ≡ true =
    ap are_distinct (sent_noting plan.new_jobs.items (notes_of plan.due_notices.items))
    ∙ distinct_sent plan.due_notices.items (subst AreDuesAscending (sym are.dues_are) (rise_all table are.jobs are.waiting.rise)) in
    let parted : sent_numbers (steps_by plan) ≡ sent_numbers made ++ sent_numbers (next ++ first.0) =
    ap sent_numbers (first.1 ∙ append_assoc made next first.0) ∙ sent_join made (next ++ first.0) in
    distinct_first (sent_numbers made) (sent_numbers (next ++ first.0)) (ap are_distinct (sym parted) ∙ all)

-- the numbers of what was sent
pub sent_of_hands : (of : Mailing) (notes : List Note) (given : List Handed) → SendsNotices of notes given
    → sent_numbers notes ≡ map (λ (one : Handed). one.number) given
sent_of_hands of [] given none = sym (ap (map (λ (one : Handed). one.number)) none)
sent_of_hands of (Sent number ∷ later) given hands =
    let one = hands.2 in
    ap (λ (n : ℕ). n ∷ sent_numbers later) (sym one.1.number_is)
    ∙ ap (λ (l : List ℕ). one.0.number ∷ l) (sent_of_hands of later hands.1 hands.3)
    ∙ sym (ap (map (λ (of_one : Handed). of_one.number)) (hands.4 ∙ ap (λ (l : List Handed). l ++ hands.1) one.2))
sent_of_hands of (Noted job ∷ later) given hands =
    sent_of_hands of later hands.1 hands.3
    ∙ sym (ap (map (λ (one : Handed). one.number)) (hands.4 ∙ ap (λ (l : List Handed). l ++ hands.1) hands.2))
sent_of_hands of (Dropped number ∷ later) given hands =
    sent_of_hands of later hands.1 hands.3
    ∙ sym (ap (map (λ (one : Handed). one.number)) (hands.4 ∙ ap (λ (l : List Handed). l ++ hands.1) hands.2))

-- What the notes have fits eight digits.

pub lines_fit : (bytes : List ℕ) (notes : List Note) → AreSpelled SpellsNote bytes notes → (note : Note) → Has notes note → IsNote note
lines_fit bytes [] spelled note has = absurd has
lines_fit bytes (first ∷ later) spelled note (inl same) = subst IsNote same spelled.1.0.spelled.of
lines_fit bytes (first ∷ later) spelled note (inr has) = lines_fit spelled.0 later spelled.1.1 note has

pub notes_fit : (held : Option (List ℕ)) (notes : List Note) → GivesNotes held notes → (note : Note) → Has notes note → IsNote note
notes_fit None notes none note has = absurd (subst (λ (l : List Note). Has l note) none has)
notes_fit (Some bytes) notes lines note has = lines_fit bytes notes lines.spelled note has

-- a notice that is sent is that of a job that waited
pub sent_waits : (table : JobTable) (notes : List Note) (due_notices : List NoticeDue) (are : AreDuesOf table notes due_notices)
    (number : ℕ) → Has (sent_numbers (notes_of due_notices)) number →
    (job : NotedJob) × Has are.jobs job × (job.number ≡ number)
sent_waits table notes due_notices are number has =
    let from = has_sent due_notices number has in
    let given = given_has (due_in table) are.jobs from.0 (subst (λ (l : List NoticeDue). Has l from.0) are.dues_are from.1) in
    (given.0, given.1, sym (number_due given.0 (entry_at table given.0.number) from.0 given.2) ∙ from.2)

pub sent_fit : (held : Option (List ℕ)) (table : JobTable) (notes : List Note) (plan : MailPlan) (made next : List Note)
    → GivesNotes held notes → AreDuesOf table notes plan.due_notices.items →
    IsNotesPrefix (made ++ next) (steps_by plan) → (number : ℕ) → Has (sent_numbers made) number → Fits number
sent_fit held table notes plan made next gives are first number has =
    let parted : sent_numbers (steps_by plan) ≡ sent_numbers made ++ sent_numbers (next ++ first.0) =
    ap sent_numbers (first.1 ∙ append_assoc made next first.0) ∙ sent_join made (next ++ first.0) in
    let among : Has (sent_numbers (notes_of plan.due_notices.items)) number =
    subst (λ (l : List ℕ). Has l number) (sym parted ∙ sent_noting plan.new_jobs.items (notes_of plan.due_notices.items))
    (has_left (sent_numbers made) (sent_numbers (next ++ first.0)) number has) in
    let job = sent_waits table notes plan.due_notices.items are number among in
    let noted : IsNote (Noted job.0) =
    notes_fit held notes gives (Noted job.0)
    (has_contained notes (Noted job.0) (are.waiting.each job.0 (contained are.jobs job.0 job.1)).noted) in
    subst Fits job.2 noted.0

-- a number that fits and was not sent has another notice
pub none_sent : (numbers : List ℕ) → ((number : ℕ) → Has numbers number → Fits number) → (number : ℕ) → Fits number
    → (Contains numbers number → ⊥) → is_notice_of numbers (notice_file number) ≡ false
none_sent numbers each number fits apart = by_test (is_notice_of numbers (notice_file number)) refl where
  by_test : (test : Bool) → is_notice_of numbers (notice_file number) ≡ test → is_notice_of numbers (notice_file number) ≡ false
  by_test false is = is
  by_test true is =
      let found = one_passes (λ other. pointwise nat_eq (notice_file number) (notice_file other)) numbers is in
      let same : notice_file number ≡ notice_file found.0 = (bytes_decides (notice_file number) (notice_file found.0)).0 found.2 in
      let one : number ≡ found.0 = one_number number found.0 fits (each found.0 found.1) (ap (drop 5) same) in
      absurd (apart (subst (Contains numbers) (sym one) (contained numbers found.0 found.1)))
