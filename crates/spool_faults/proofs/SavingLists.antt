-- Lists of what is saved, one element after the other.
use Rattle.std.proofs.Common.{◌≡◌, ℕ, suc, ◌+◌, ◌<◌, ◌≤◌, Bool, true, false, not, arith, List, Option, Some, None, [], ◌∷◌, ◌++◌, length, get_or, map, take, drop, sym, ap, subst, ◌∙◌, refl, append_assoc, drop-cons}
use Rattle.std.specs.Prelude.{◌||◌, option_to_list, if◌then◌else◌}
use Rattle.std.specs.BTreeSet.{BTreeSet}
use Rattle.std.specs.List.{cons_option, filter, filter_map}
use Rattle.std.proofs.lemmas.List.{at_drop_all, take_all, take_more}
use Rattle.std.proofs.lemmas.List.Elements.{filter_map-append}
use Rattle.std.proofs.lemmas.List.Folds.{list_any-append}
use Rattle.spool_shows.specs.JobFiles.{JobFile}
use Rattle.start_journal.specs.declared.mark.Mark.{Mark}
use Rattle.start_journal.specs.Marks.{is_decided, has_mark_of, is_mark_of}
use Rattle.spool_faults.specs.declared.first_files.FirstFiles.{FirstFiles}
use Rattle.spool_faults.specs.Faults.{first_files}
use Rattle.spool_faults.specs.Plan.{name_of_file}
use Rattle.spool_faults.specs.Salvaged.{greatest, is_left, is_unnamed, removal_mark}
use Rattle.spool_faults.specs.inside.FoundFiles.{AreDecidedNumbers, AreFirstFiles, bare, file_first}
use Rattle.spool_faults.specs.inside.SavedParts.{AreNamedNumbers, name_unless, removal_unless}

-- What a function gives.

listed : {X : Type 0} → (given : Option X) → option_to_list given ≡ cons_option given []
listed None = refl
listed (Some x) = refl

pub given_step : {X Y : Type 0} → (give : X → Option Y) (xs : List X) (place : ℕ) (other : X) (start old new : List Y) (given : Option Y)
    → place < length xs → old ≡ start ++ filter_map give (take place xs) → new ≡ old ++ option_to_list given
    → given ≡ give (get_or xs place other) → new ≡ start ++ filter_map give (take (place + 1) xs)
given_step give xs place other start old new given inside before more is =
    more ∙ ap (λ list. list ++ option_to_list given) before
    ∙ ap (λ g. (start ++ filter_map give (take place xs)) ++ option_to_list g) is
    ∙ append_assoc start (filter_map give (take place xs)) (option_to_list (give (get_or xs place other)))
    ∙ ap (λ list. start ++ (filter_map give (take place xs) ++ list)) (listed (give (get_or xs place other)))
    ∙ ap (λ list. start ++ list) (sym (filter_map-append give (take place xs) (get_or xs place other ∷ [])))
    ∙ ap (λ list. start ++ filter_map give list) (sym (take_more xs place other inside))

pub given_end : {X Y : Type 0} → (give : X → Option Y) (xs : List X) (place : ℕ) (start new : List Y) → length xs ≤ place
    → new ≡ start ++ filter_map give (take place xs) → new ≡ start ++ filter_map give xs
given_end give xs place start new past is = is ∙ ap (λ list. start ++ filter_map give list) (take_all place xs past)

pub given_made : {X Y Z : Type 0} → (make : X → Y) (give : Y → Option Z) (xs : List X)
    → filter_map (λ x. give (make x)) xs ≡ filter_map give (map make xs)
given_made make give [] = refl
given_made make give (x ∷ later) = ap (cons_option (give (make x))) (given_made make give later)

-- what is made of those that a test leaves
unless_test : {Y : Type 0} → (test : JobFile → Bool) (make : JobFile → Y) (files : List JobFile)
    → filter_map (λ file. if test file then None else Some (make file)) files ≡ map make (filter (λ file. not (test file)) files)
unless_test test make [] = refl
unless_test {Y} test make (file ∷ later) = by_test (test file) (unless_test test make later) where
  by_test : (b : Bool) → filter_map (λ of. if test of then None else Some (make of)) later ≡ map make (filter (λ of. not (test of)) later)
      → cons_option (if b then None else Some (make file)) (filter_map (λ of. if test of then None else Some (make of)) later)
      ≡ map make (if not b then file ∷ filter (λ of. not (test of)) later else filter (λ of. not (test of)) later)
  by_test true rest = rest
  by_test false rest = ap (λ list. make file ∷ list) rest

-- the marks that take jobs back, and the names that are left
pub taken_back_are : (marks : List Mark) (named : BTreeSet ℕ) (files : List JobFile) (firsts : FirstFiles) → AreNamedNumbers marks named
    → AreFirstFiles files firsts → filter_map (λ file. removal_unless named (file_first file)) firsts.files.items
    ≡ map removal_mark (filter (is_unnamed marks) (first_files [] files))
taken_back_are marks named files firsts are first =
    given_made file_first (removal_unless named) firsts.files.items
    ∙ ap (filter_map (removal_unless named)) first.files_are
    ∙ sym (given_made bare (removal_unless named) (first_files [] files))
    ∙ (λ i. filter_map (λ (file : JobFile). if are file.job.number i then None else Some (removal_mark file)) (first_files [] files))
    ∙ unless_test (λ (file : JobFile). has_mark_of file.job.number marks) removal_mark (first_files [] files)

pub names_left_are : (marks : List Mark) (decided : BTreeSet ℕ) (files : List JobFile) (firsts : FirstFiles)
    → AreDecidedNumbers marks decided → AreFirstFiles files firsts → filter_map (λ file. name_unless decided (file_first file))
    firsts.files.items ≡ map name_of_file (filter (is_left marks) (first_files [] files))
names_left_are marks decided files firsts are first =
    given_made file_first (name_unless decided) firsts.files.items
    ∙ ap (filter_map (name_unless decided)) first.files_are
    ∙ sym (given_made bare (name_unless decided) (first_files [] files))
    ∙ (λ i. filter_map (λ (file : JobFile). if are file.job.number i then None else Some file.name) (first_files [] files))
    ∙ unless_test (λ (file : JobFile). is_decided file.job.number marks) name_of_file (first_files [] files)

-- The numbers that marks name.

pub named_pass : (number : ℕ) (marks : List Mark) (place : ℕ) (other : Mark) (old new : Bool) → place < length marks
    → old ≡ has_mark_of number (take place marks) → new ≡ (old || is_mark_of number (get_or marks place other))
    → new ≡ has_mark_of number (take (place + 1) marks)
named_pass number marks place other old new inside before is =
    let one : Mark = get_or marks place other in
    is ∙ ap (λ b. b || is_mark_of number one) before
    ∙ ap (λ b. has_mark_of number (take place marks) || b) (last_of (is_mark_of number one))
    ∙ sym (list_any-append (is_mark_of number) (take place marks) (one ∷ []))
    ∙ ap (has_mark_of number) (sym (take_more marks place other inside)) where
      last_of : (b : Bool) → b ≡ (b || false)
      last_of true = refl
      last_of false = refl

pub named_all : (marks : List Mark) (place : ℕ) (named : BTreeSet ℕ) → length marks ≤ place → AreNamedNumbers (take place marks) named
    → AreNamedNumbers marks named
named_all marks place named past are = subst (λ list. AreNamedNumbers list named) (take_all place marks past) are

-- The greatest number.

greatest_more : (least : ℕ) (given : Option ℕ) (later : List ℕ)
    → greatest (greatest least (option_to_list given)) later ≡ greatest least (cons_option given later)
greatest_more least None later = refl
greatest_more least (Some number) later = refl

pub greatest_step : {X : Type 0} → (give : X → Option ℕ) (xs : List X) (place : ℕ) (other : X) (old new all : ℕ) (given : Option ℕ)
    → place < length xs → greatest old (filter_map give (drop place xs)) ≡ all → new ≡ greatest old (option_to_list given)
    → given ≡ give (get_or xs place other) → greatest new (filter_map give (drop (place + 1) xs)) ≡ all
greatest_step give xs place other old new all given inside before more is =
    let count : suc place ≡ place + 1 = omega arith in
    ap (λ n. greatest n (filter_map give (drop (place + 1) xs))) (more ∙ ap (λ g. greatest old (option_to_list g)) is)
    ∙ greatest_more old (give (get_or xs place other)) (filter_map give (drop (place + 1) xs))
    ∙ ap (λ n. greatest old (cons_option (give (get_or xs place other)) (filter_map give (drop n xs)))) (sym count)
    ∙ ap (λ list. greatest old (filter_map give list)) (sym (drop-cons xs place other inside))
    ∙ before

pub greatest_end : {X : Type 0} → (give : X → Option ℕ) (xs : List X) (place : ℕ) (last all : ℕ) → length xs ≤ place
    → greatest last (filter_map give (drop place xs)) ≡ all → last ≡ all
greatest_end give xs place last all past so = sym (at_drop_all (λ list. greatest last (filter_map give list)) xs place past) ∙ so

-- Marks that can be written.
