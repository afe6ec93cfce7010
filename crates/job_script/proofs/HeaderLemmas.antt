-- Headers and their faults.
use Rattle.std.proofs.Common.{◌≡◌, ℕ, suc, ◌+◌, ◌-◌, ◌<◌, ◌≤◌, ◌⊎◌, inl, inr, Bool, true, false, List, [], ◌∷◌, ◌++◌, length, get_or, take, drop, refl, sym, ap, subst, arith, ◌∙◌, zero}
use Rattle.std.proofs.Math.Seq.{take-append-add}
use Rattle.std.proofs.lemmas.List.{append_assoc, append_cancel_left, get_or_append_left, get_or-take, take-append-drop, take_all, ext_get_or, length-append, length-take-le}
use Rattle.spool_model.specs.Users.{IsUserName, is_user_byte, are_user_bytes}
use Rattle.job_script.specs.Header.{BeginsWithHeader, IsHeaderFault, IsHeaderPrefix, before_user, after_user, header_text}
use Rattle.job_script.specs.inside.Scan.{Matches}
use Rattle.job_script.proofs.RunLemmas.{both_hold}
use Rattle.job_script.proofs.UserRuns.{EndsUser, IsMost, is_the_name, same_user}

-- the bytes have as much of the text as agrees
pub matched_prefix : (bytes text : List ℕ) (count : ℕ) → Matches bytes text count → take count bytes ≡ take count text
matched_prefix bytes text count m =
    let left : length (take count bytes) ≡ count = length-take-le count bytes m.in_bytes in
    let right : length (take count text) ≡ count = length-take-le count text m.in_text in
    ext_get_or 0 (take count bytes) (take count text) (left ∙ sym right)
    (λ k below. let within : k < count = omega arith in
    get_or-take count bytes k 0 within ∙ m.same k within ∙ sym (get_or-take count text k 0 within))

-- where all of the text agrees, the bytes begin with it
pub matched_whole : (bytes text : List ℕ) (count : ℕ) → Matches bytes text count → count ≡ length text
    → bytes ≡ text ++ drop count bytes
matched_whole bytes text count m all =
    let prefix : take count bytes ≡ text = matched_prefix bytes text count m ∙ take_all count text (omega arith) in
    sym (take-append-drop count bytes) ∙ ap (λ (it : List ℕ). it ++ drop count bytes) prefix

-- where a text has more of the bytes than agrees, it doesn't begin with the other text
pub agrees_no_further : (bytes text whole more : List ℕ) (count far : ℕ) → Matches bytes text count
    → count < far → far ≤ length bytes → count < length text
    → get_or whole count 0 ≡ get_or text count 0 → whole ≡ take far bytes ++ more → ⊥
agrees_no_further bytes text whole more count far m less within short begins same =
    let taken : length (take far bytes) ≡ far = length-take-le far bytes within in
    let there : get_or (take far bytes ++ more) count 0 ≡ get_or (take far bytes) count 0 =
    get_or_append_left (take far bytes) more 0 count (omega arith) in
    let inside : get_or (take far bytes) count 0 ≡ get_or bytes count 0 = get_or-take far bytes count 0 less in
    let equal : get_or whole count 0 ≡ get_or (take far bytes ++ more) count 0 = ap (λ (it : List ℕ). get_or it count 0) same in
    let short_of : count < length bytes = omega arith in
    m.stops short short_of (cc (begins, equal, there, inside))

-- bytes that agree no further don't begin with the text
pub is_no_prefix : (bytes text rest : List ℕ) (count : ℕ) → Matches bytes text count
    → count < length text → bytes ≡ text ++ rest → ⊥
is_no_prefix bytes text rest count m short same =
    let long : length bytes ≡ length text + length rest = ap length same ∙ length-append text rest in
    let here : get_or (text ++ rest) count 0 ≡ get_or text count 0 = get_or_append_left text rest 0 count short in
    m.stops short (omega arith) (ap (λ (it : List ℕ). get_or it count 0) same ∙ here)

-- what is after a user begins with no byte of a name
pub ends_there : (mail : Bool) (rest : List ℕ) → EndsUser (after_user mail ++ rest)
ends_there true rest = refl
ends_there false rest = refl

-- the part after the user has eight bytes
pub eight_after : (mail : Bool) → length (after_user mail) ≡ 8
eight_after true = refl
eight_after false = refl

-- the digits of the flag are two
unlike : (a b : ℕ) → a ≡ 49 → b ≡ 48 → a ≡ b → ⊥
unlike a b one none same = omega arith

-- two flags that are spelled alike are one
pub one_flag : (a b : Bool) (x y : List ℕ) → after_user a ++ x ≡ after_user b ++ y → a ≡ b
one_flag true true x y same = refl
one_flag false false x y same = refl
one_flag true false x y same =
    absurd (unlike _ _ refl refl (ap (λ (it : List ℕ). get_or it 6 0) same))
one_flag false true x y same =
    absurd (unlike _ _ refl refl (sym (ap (λ (it : List ℕ). get_or it 6 0) same)))

-- the flag is alone at the end of a header
pub ends_alone : (mail : Bool) → EndsUser (after_user mail)
ends_alone true = refl
ends_alone false = refl

-- a header and what follows it, part by part
pub parts : (user more : List ℕ) (mail : Bool)
    → header_text user mail ++ more ≡ before_user ++ (user ++ (after_user mail ++ more))
parts user more mail =
    append_assoc before_user (user ++ after_user mail) more
    ∙ ap (λ (it : List ℕ). before_user ++ it) (append_assoc user (after_user mail) more)

-- the text after the prefix of a header begins with the rest of it
pub after_prefix : (rest user more : List ℕ) (mail : Bool)
    → before_user ++ rest ≡ header_text user mail ++ more → rest ≡ user ++ (after_user mail ++ more)
after_prefix rest user more mail same =
    append_cancel_left before_user rest (user ++ (after_user mail ++ more)) (same ∙ parts user more mail)

-- bytes begin with one header at most
pub one_header : (bytes u v : List ℕ) (a b : Bool) → BeginsWithHeader bytes u a → BeginsWithHeader bytes v b → (u ≡ v) × (a ≡ b)
one_header bytes u v a b first second =
    let both : before_user ++ (u ++ (after_user a ++ first.rest)) ≡ header_text v b ++ second.rest =
    sym (parts u first.rest a) ∙ sym first.text ∙ second.text in
    let tails : u ++ (after_user a ++ first.rest) ≡ v ++ (after_user b ++ second.rest) =
    after_prefix (u ++ (after_user a ++ first.rest)) v second.rest b both in
    let same : (u ≡ v) × (after_user a ++ first.rest ≡ after_user b ++ second.rest) =
    same_user u v (after_user a ++ first.rest) (after_user b ++ second.rest) first.name.each second.name.each
    (ends_there a first.rest) (ends_there b second.rest) tails in
    (same.0, one_flag a b first.rest second.rest same.1)

-- the header that the code has found
pub header_found : (bytes rest user tail : List ℕ) (mail : Bool) (more : List ℕ) → IsUserName user
    → bytes ≡ before_user ++ rest → rest ≡ user ++ tail → tail ≡ after_user mail ++ more
    → BeginsWithHeader bytes user mail
header_found bytes rest user tail mail more name prefix middle end = record {
  name = name;
  rest = more;
  text = prefix ∙ ap (λ (it : List ℕ). before_user ++ it) (middle ∙ ap (λ (it : List ℕ). user ++ it) end)
      ∙ sym (parts user more mail);
}

-- the shortest user's name
pub some_name : IsUserName (97 ∷ [])
some_name = record { some = omega arith; few = omega arith; each = refl; no_dash = λ same. absurd (cc same) }

-- a fault before the user
pub fault_before : (bytes : List ℕ) (count : ℕ) → Matches bytes before_user count → count < 20 → IsHeaderFault bytes count
fault_before bytes count m short = record {
  none = λ h. is_no_prefix bytes before_user (h.user ++ (after_user h.mail ++ h.header.rest)) count m short
      (h.header.text ∙ parts h.user h.header.rest h.mail);
  within = m.in_bytes;
  prefix = record {
    user = 97 ∷ [];
    mail = false;
    name = some_name;
    rest = drop count before_user ++ ((97 ∷ []) ++ after_user false);
    text = ap (λ (it : List ℕ). it ++ ((97 ∷ []) ++ after_user false)) (sym (take-append-drop count before_user))
        ∙ append_assoc (take count before_user) (drop count before_user) ((97 ∷ []) ++ after_user false)
        ∙ ap (λ (it : List ℕ). it ++ (drop count before_user ++ ((97 ∷ []) ++ after_user false)))
        (sym (matched_prefix bytes before_user count m));
  };
  longest = λ more less within f.
      agrees_no_further bytes before_user (header_text f.user f.mail) f.rest count more m less within short
      (get_or_append_left before_user (f.user ++ after_user f.mail) 0 count short) f.text;
}

-- no user's name begins there: another byte is there, or a dash
abbrev pub NoName : List ℕ → Type 0
NoName [] = Unit {0}
NoName (x ∷ xs) = (is_user_byte x ≡ false) ⊎ (x ≡ 45)

-- no name begins where none can
pub no_name : (x v y : List ℕ) → NoName x → IsUserName v → x ≡ v ++ y → ⊥
no_name [] [] y none name same = absurd (omega (arith, name.some))
no_name [] (b ∷ v) y none name same = absurd (cc same)
no_name (a ∷ x) [] y none name same = absurd (omega (arith, name.some))
no_name (a ∷ x) (b ∷ v) y (inl strange) name same =
    let head : a ≡ b = cc same in
    cc ((both_hold (is_user_byte b) (are_user_bytes v) name.each).0, strange, ap is_user_byte head)
no_name (a ∷ x) (b ∷ v) y (inr dash) name same =
    let head : b ≡ 45 = cc (same, dash) in
    name.no_dash head

-- a prefix of such a text is one
pub no_name_in_prefix : (x more : List ℕ) (count : ℕ) → 0 < count → count ≤ length x → NoName x → NoName (take count x ++ more)
no_name_in_prefix [] more count some within none = absurd (omega arith)
no_name_in_prefix (a ∷ x) more zero some within none = absurd (omega arith)
no_name_in_prefix (a ∷ x) more (suc count) some within none = none

-- a prefix of a text after a user's name is one
pub ends_in_prefix : (x more : List ℕ) (count : ℕ) → 0 < count → count ≤ length x → EndsUser x → EndsUser (take count x ++ more)
ends_in_prefix [] more count some within ends = absurd (omega arith)
ends_in_prefix (a ∷ x) more zero some within ends = absurd (omega arith)
ends_in_prefix (a ∷ x) more (suc count) some within ends = ends

-- a prefix of a header that reaches after what is before the user
pub prefix_after : (x : List ℕ) (f : IsHeaderPrefix (before_user ++ x)) → f.user ++ after_user f.mail ≡ x ++ f.rest
prefix_after x f =
    append_cancel_left before_user (f.user ++ after_user f.mail) (x ++ f.rest)
    (f.text ∙ append_assoc before_user x f.rest)

-- a prefix of a text with a known prefix
pub take_after : (prefix x : List ℕ) (more : ℕ) → length prefix ≤ more
    → take more (prefix ++ x) ≡ prefix ++ take (more - length prefix) x
take_after prefix x more far =
    let whole : more ≡ length prefix + (more - length prefix) = omega arith in
    ap (λ (n : ℕ). take n (prefix ++ x)) whole ∙ take-append-add prefix x (more - length prefix)

-- a fault where a user should be
pub fault_at_user : (bytes rest : List ℕ) → bytes ≡ before_user ++ rest → NoName rest → IsHeaderFault bytes 20
fault_at_user bytes rest prefix none =
    let long : length bytes ≡ 20 + length rest = ap length prefix ∙ length-append before_user rest in
    let taken : take 20 bytes ≡ before_user ++ [] = ap (λ (it : List ℕ). take 20 it) prefix ∙ take-append-add before_user rest 0 in
    record {
      none = λ h. no_name rest h.user (after_user h.mail ++ h.header.rest) none h.header.name
          (after_prefix rest h.user h.header.rest h.mail (sym prefix ∙ h.header.text));
      within = omega arith;
      prefix = record {
        user = 97 ∷ [];
        mail = false;
        name = some_name;
        rest = (97 ∷ []) ++ after_user false;
        text = ap (λ (it : List ℕ). it ++ ((97 ∷ []) ++ after_user false)) (sym taken);
      };
      longest = λ more less within f.
          let taken : take more bytes ≡ before_user ++ take (more - 20) rest =
          ap (λ (it : List ℕ). take more it) prefix ∙ take_after before_user rest more (omega arith) in
          let g : IsHeaderPrefix (before_user ++ take (more - 20) rest) = subst IsHeaderPrefix taken f in
          no_name (take (more - 20) rest ++ g.rest) g.user (after_user g.mail)
          (no_name_in_prefix rest g.rest (more - 20) (omega arith) (omega arith) none) g.name
          (sym (prefix_after (take (more - 20) rest) g));
    }

-- the run of bytes goes on no further in a prefix of the text after it
pub most_in_prefix : (u x more : List ℕ) (count : ℕ) → 0 < count → count ≤ length x → IsMost u x → IsMost u (take count x ++ more)
most_in_prefix u x more count some within (inl full) = inl full
most_in_prefix u x more count some within (inr ends) = inr (ends_in_prefix x more count some within ends)

-- how far what is after the user agrees with each spelling of the flag
pub record MatchesFlags (tail : List ℕ) (count : Bool → ℕ) (most : ℕ) : Type 0 where
  pub each : (mail : Bool) → Matches tail (after_user mail) (count mail)
  pub short : (mail : Bool) → count mail < 8
  pub below : (mail : Bool) → count mail ≤ most
  pub mail : Bool
  pub here : count mail ≡ most

-- a fault after the user
pub fault_after : (bytes u tail : List ℕ) (count : Bool → ℕ) (most : ℕ)
    → bytes ≡ before_user ++ (u ++ tail) → IsUserName u → IsMost u tail → MatchesFlags tail count most
    → IsHeaderFault bytes (20 + length u + most)
fault_after bytes u tail count most prefix name ends m =
    let long : length bytes ≡ 20 + (length u + length tail) =
    ap length prefix ∙ length-append before_user (u ++ tail) ∙ ap (λ (n : ℕ). 20 + n) (length-append u tail) in
    let best : Matches tail (after_user m.mail) most =
    subst (λ (n : ℕ). Matches tail (after_user m.mail) n) m.here (m.each m.mail) in
    let taken : (far : ℕ) → 20 + length u ≤ far → take far bytes ≡ before_user ++ (u ++ take (far - 20 - length u) tail) =
    λ far reach. ap (λ (it : List ℕ). take far it) prefix
    ∙ take_after before_user (u ++ tail) far (omega arith)
    ∙ ap (λ (it : List ℕ). before_user ++ it) (take_after u tail (far - 20) (omega arith)) in
    record {
      none = λ h.
          let tails : u ++ tail ≡ h.user ++ (after_user h.mail ++ h.header.rest) =
          after_prefix (u ++ tail) h.user h.header.rest h.mail (sym prefix ∙ h.header.text) in
          let same : (u ≡ h.user) × (tail ≡ after_user h.mail ++ h.header.rest) =
          is_the_name u h.user tail (after_user h.mail ++ h.header.rest) name h.header.name ends
          (ends_there h.mail h.header.rest) tails in
          let short : count h.mail < length (after_user h.mail) = rw eight_after (m.short h.mail) in
          is_no_prefix tail (after_user h.mail) h.header.rest (count h.mail) (m.each h.mail) short same.1;
      within = let within : most ≤ length tail = best.in_bytes in omega arith;
      prefix =
          let back : 20 + length u + most - 20 - length u ≡ most = omega arith in
          let here : take (20 + length u + most) bytes ≡ before_user ++ (u ++ take most tail) =
          taken (20 + length u + most) (omega arith)
          ∙ ap (λ (n : ℕ). before_user ++ (u ++ take n tail)) back in
          let agree : take most tail ≡ take most (after_user m.mail) = matched_prefix tail (after_user m.mail) most best in
          let flag : after_user m.mail ≡ take most tail ++ drop most (after_user m.mail) =
          sym (take-append-drop most (after_user m.mail))
          ∙ ap (λ (it : List ℕ). it ++ drop most (after_user m.mail)) (sym agree) in
          record {
            user = u;
            mail = m.mail;
            name = name;
            rest = drop most (after_user m.mail);
            text = ap (λ (it : List ℕ). before_user ++ (u ++ it)) flag
                ∙ sym (ap (λ (it : List ℕ). before_user ++ it) (append_assoc u (take most tail) (drop most (after_user m.mail))))
                ∙ sym (append_assoc before_user (u ++ take most tail) (drop most (after_user m.mail)))
                ∙ ap (λ (it : List ℕ). it ++ drop most (after_user m.mail)) (sym here);
          };
      longest = λ more less within f.
          let far = more - 20 - length u in
          let g : IsHeaderPrefix (before_user ++ (u ++ take far tail)) = subst IsHeaderPrefix (taken more (omega arith)) f in
          let tails : u ++ (take far tail ++ g.rest) ≡ g.user ++ after_user g.mail =
          sym (append_assoc u (take far tail) g.rest) ∙ sym (prefix_after (u ++ take far tail) g) in
          let same : (u ≡ g.user) × (take far tail ++ g.rest ≡ after_user g.mail) =
          is_the_name u g.user (take far tail ++ g.rest) (after_user g.mail) name g.name
          (most_in_prefix u tail g.rest far (omega arith) (omega arith) ends) (ends_alone g.mail) tails in
          let below : count g.mail ≤ most = m.below g.mail in
          let short : count g.mail < length (after_user g.mail) = rw eight_after (m.short g.mail) in
          agrees_no_further tail (after_user g.mail) (after_user g.mail) g.rest (count g.mail) far (m.each g.mail)
          (omega arith) (omega arith) short refl (sym same.1);
    }
