-- Texts that are put together part by part.
use Rattle.std.proofs.Common.{◌≡◌, ◌∙◌, ℕ, List, [], ◌∷◌, ◌++◌, sym, ap, append_assoc, append-nil}
use Rattle.mail_notes.specs.declared.note.Note.{Note}
use Rattle.mail_notes.specs.Laws.{NoteFilesAreTexts}
use Rattle.mail_notes.specs.Lines.{note_line, note_text, notes_text}

-- four parts
pub four_parts : (old one two three four a b c d : List ℕ) → one ≡ old ++ a → two ≡ one ++ b → three ≡ two ++ c → four ≡ three ++ d
    → four ≡ old ++ (a ++ (b ++ (c ++ d)))
four_parts old one two three four a b c d first second third fourth =
    fourth ∙ ap (λ t. t ++ d) (third ∙ ap (λ t. t ++ c) (second ∙ ap (λ t. t ++ b) first))
    ∙ append_assoc ((old ++ a) ++ b) c d ∙ append_assoc (old ++ a) b (c ++ d) ∙ append_assoc old a (b ++ (c ++ d))

-- three parts and four
pub seven_parts : (old one two three four five six seven a b c d e f g : List ℕ) → one ≡ old ++ a → two ≡ one ++ b
    → three ≡ two ++ c → four ≡ three ++ d
    → five ≡ four ++ e → six ≡ five ++ f → seven ≡ six ++ g → seven ≡ old ++ (a ++ (b ++ (c ++ (d ++ (e ++ (f ++ g))))))
seven_parts old one two three four five six seven a b c d e f g first second third fourth fifth sixth last =
    four_parts three four five six seven d e f g fourth fifth sixth last
    ∙ ap (λ t. t ++ (d ++ (e ++ (f ++ g)))) (third ∙ ap (λ t. t ++ c) (second ∙ ap (λ t. t ++ b) first))
    ∙ append_assoc ((old ++ a) ++ b) c (d ++ (e ++ (f ++ g))) ∙ append_assoc (old ++ a) b (c ++ (d ++ (e ++ (f ++ g))))
    ∙ append_assoc old a (b ++ (c ++ (d ++ (e ++ (f ++ g)))))

-- the text of a file of notes
pub note_files_are_texts : NoteFilesAreTexts
note_files_are_texts bytes [] spelled = spelled
note_files_are_texts bytes (note ∷ later) spelled =
    let begins = spelled.1.0 in
    begins.parted ∙ ap (λ line. line ++ 10 ∷ spelled.0) begins.spelled.is
    ∙ ap (λ rest. note_text note ++ 10 ∷ rest) (note_files_are_texts spelled.0 later spelled.1.1)
    ∙ sym (append_assoc (note_text note) (10 ∷ []) (notes_text later))

-- one more note
pub notes_text-push : (notes : List Note) (note : Note) → notes_text (notes ++ note ∷ []) ≡ notes_text notes ++ note_line note
notes_text-push [] note = append-nil (note_line note)
notes_text-push (first ∷ notes) note = ap (λ text. note_line first ++ text) (notes_text-push notes note)
    ∙ sym (append_assoc (note_line first) (notes_text notes) (note_line note))
