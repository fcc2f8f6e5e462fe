-- The values of several parts, one behind another, and their pieces.
use Rattle.std.proofs.Common.{◌≡◌, ◌&&◌, ℕ, zero, suc, Bool, true, false, List, [], ◌∷◌, ◌++◌, length, refl, sym, ap, ◌∙◌, append_assoc}
use Rattle.std.specs.List.{flat_map}
use Rattle.std.proofs.lemmas.List.{append-nil}
use Rattle.std.proofs.lemmas.Bool.{and_parts}
use Rattle.ab_cert.specs.declared.part.Part.{Part}
use Rattle.ab_cert.specs.Plain.{Ty, base, arrow, Head, constant, logic, nominal, cell, index, Term, lam, spine}
use Rattle.ab_cert.specs.Tables.{Each}
use Rattle.ab_cert.specs.Pieces.{Pieces, type_pieces, head_pieces, term_pieces}
use Rattle.ab_cert.specs.Texts.{space}
use Rattle.ab_cert.specs.Reading.{text_with_end}
use Rattle.ab_cert.specs.Grammar.{copies, starts_line, end_of, Val, IsVal, pieces_of, part_text, Words}
use Rattle.ab_cert.proofs.Phrases.{IsSome, some_more, text_more}

abbrev pub Vals : List Part → Type 0
Vals [] = Unit {0}
Vals (s ∷ cs) = Val s × Vals cs

abbrev pub AreVals : (cs : List Part) → Vals cs → Type 0
AreVals [] vs = Unit {0}
AreVals (s ∷ cs) vs = IsVal s vs.0 × AreVals cs vs.1

abbrev pub all_pieces : (cs : List Part) → Vals cs → Pieces
all_pieces [] vs = []
all_pieces (s ∷ cs) vs = pieces_of s vs.0 ++ all_pieces cs vs.1

-- the part stands inside a line
abbrev pub is_inside : Part → Bool
is_inside Part.Whole = false
is_inside Part.Version = false
is_inside Part.Items = false
is_inside Part.Clauses = false
is_inside Part.Proof = false
is_inside Part.Step = false
is_inside Part.Clause = false
is_inside s = true

abbrev pub are_inside : List Part → Bool
are_inside [] = true
are_inside (s ∷ cs) = is_inside s && are_inside cs

-- the part is a line, or stands inside one
abbrev pub is_plain_part : Part → Bool
is_plain_part Part.Whole = false
is_plain_part Part.Version = false
is_plain_part Part.Items = false
is_plain_part Part.Clauses = false
is_plain_part Part.Proof = false
is_plain_part s = true

some_type : (a : Ty) → IsSome (type_pieces a)
some_type (base k) = tt
some_type (arrow a b) = tt

some_head : (x : Head) → IsSome (head_pieces x)
some_head (constant c) = tt
some_head (logic s) = tt
some_head (nominal n ty) = tt
some_head (cell x) = tt
some_head (index i) = tt

some_term : (t : Term) → IsSome (term_pieces t)
some_term (lam ty hint body) = tt
some_term (spine head args) = tt

pub some_pieces : (s : Part) → is_plain_part s ≡ true → (x : Val s) → IsSome (pieces_of s x)
some_pieces Part.Whole h x = cc
some_pieces Part.Version h x = cc
some_pieces Part.Items h x = cc
some_pieces Part.Clauses h x = cc
some_pieces Part.Proof h x = cc
some_pieces Part.Step h x = tt
some_pieces Part.Clause h x = tt
some_pieces Part.Name h x = tt
some_pieces Part.Label h x = tt
some_pieces Part.Flag h x = tt
some_pieces Part.Letter h x = tt
some_pieces Part.Place h x = tt
some_pieces Part.Long h x = tt
some_pieces Part.Small h x = tt
some_pieces Part.Type h x = some_type x
some_pieces Part.Term h x = some_term x
some_pieces Part.Head h x = some_head x
some_pieces Part.Sign h x = tt
some_pieces Part.Variable h x = tt
some_pieces Part.Replace h x = tt
some_pieces Part.Args h x = tt
some_pieces Part.Names h x = tt
some_pieces Part.Labels h x = tt
some_pieces Part.Numbers h x = tt
some_pieces Part.Variables h x = tt
some_pieces Part.Replaces h x = tt

pub inside_plain : (s : Part) → is_inside s ≡ true → is_plain_part s ≡ true
inside_plain Part.Whole h = h
inside_plain Part.Version h = h
inside_plain Part.Items h = h
inside_plain Part.Clauses h = h
inside_plain Part.Proof h = h
inside_plain s h = refl

pub inside_line : (s : Part) → is_inside s ≡ true → starts_line s ≡ false
inside_line Part.Items h = cc
inside_line Part.Step h = cc
inside_line Part.Clause h = cc
inside_line s h = refl

pub plain_text : (s : Part) → is_plain_part s ≡ true → (end : ℕ) (x : Val s) → part_text s end x ≡ text_with_end end (pieces_of s x)
plain_text Part.Whole h end x = cc
plain_text Part.Version h end x = cc
plain_text Part.Items h end x = cc
plain_text Part.Clauses h end x = cc
plain_text Part.Proof h end x = cc
plain_text s h end x = refl

pub inside_end : (s : Part) (pending : List Part) → is_inside s ≡ true → end_of (s ∷ pending) ≡ space
inside_end s pending h = rw (inside_line s h) refl

-- SEVERAL PARTS INSIDE A LINE, behind some pieces

-- the text of what is read behind some pieces
abbrev pub Along : List Part → List Part → (cs : List Part) → Vals cs → List ℕ → List ℕ → Type 0
Along from pending cs vs w rest = (ps : Pieces) → IsSome ps → text_with_end (end_of from) ps ++ w ≡ text_with_end (end_of pending) (ps ++ all_pieces cs vs) ++ rest

pub record Gathering (cs pending : List Part) (w : List ℕ) : Type 0 where
  pub values : Vals cs
  pub meet : AreVals cs values
  pub rest : List ℕ
  pub more : Words pending rest
  pub along : Along (cs ++ pending) pending cs values w rest

pub record Spreading (cs pending : List Part) (values : Vals cs) (rest : List ℕ) : Type 0 where
  pub word : List ℕ
  pub more : Words (cs ++ pending) word
  pub along : Along (cs ++ pending) pending cs values word rest

along_more : (s : Part) (cs pending : List Part) → is_inside s ≡ true → (x : Val s) (vs : Vals cs) (w left rest : List ℕ) → w ≡ part_text s (end_of (cs ++ pending)) x ++ left → Along (cs ++ pending) pending cs vs left rest → Along (s ∷ (cs ++ pending)) pending (s ∷ cs) (x, vs) w rest
along_more s cs pending h x vs w left rest e a = λ ps some.
    let p = inside_plain s h in
    let f : w ≡ text_with_end (end_of (cs ++ pending)) (pieces_of s x) ++ left = e ∙ ap (λ q. q ++ left) (plain_text s p (end_of (cs ++ pending)) x) in
    ap (λ c. text_with_end c ps ++ w) (inside_end s (cs ++ pending) h) ∙ (ap (λ q. text_with_end space ps ++ q) f
    ∙ (sym (append_assoc (text_with_end space ps) (text_with_end (end_of (cs ++ pending)) (pieces_of s x)) left)
    ∙ (ap (λ q. q ++ left) (sym (text_more (end_of (cs ++ pending)) ps (pieces_of s x) some (some_pieces s p x)))
    ∙ (a (ps ++ pieces_of s x) (some_more ps (pieces_of s x) some) ∙ ap (λ q. text_with_end (end_of pending) q ++ rest) (append_assoc ps (pieces_of s x) (all_pieces cs vs))))))

along_none : (pending : List Part) (w : List ℕ) → Along pending pending [] tt w w
along_none pending w = λ ps some. ap (λ q. text_with_end (end_of pending) q ++ w) (sym (append-nil ps))

pub gather : (cs pending : List Part) (w : List ℕ) → are_inside cs ≡ true → Words (cs ++ pending) w → Gathering cs pending w
gather [] pending w h m = record { values = tt; meet = tt; rest = w; more = m; along = along_none pending w }
gather (s ∷ cs) pending w h m =
    let parts = and_parts (is_inside s) (are_inside cs) h in
    let g = gather cs pending m.rest parts.1 m.more in
    record {
      values = (m.value, g.values);
      meet = (m.meets, g.meet);
      rest = g.rest;
      more = g.more;
      along = along_more s cs pending parts.0 m.value g.values w m.rest g.rest m.spelled g.along;
    }

pub spread : (cs pending : List Part) (vs : Vals cs) (rest : List ℕ) → are_inside cs ≡ true → AreVals cs vs → Words pending rest → Spreading cs pending vs rest
spread [] pending vs rest h k m = record { word = rest; more = m; along = along_none pending rest }
spread (s ∷ cs) pending vs rest h k m =
    let parts = and_parts (is_inside s) (are_inside cs) h in
    let g = spread cs pending vs.1 rest parts.1 k.1 m in
    let w = part_text s (end_of (cs ++ pending)) vs.0 ++ g.word in
    record {
      word = w;
      more = record { value = vs.0; meets = k.0; rest = g.word; more = g.more; spelled = refl };
      along = along_more s cs pending parts.0 vs.0 vs.1 w g.word rest refl g.along;
    }

-- LISTS OF A PART

abbrev pub list_vals : (s : Part) (xs : List (Val s)) → Vals (copies (length xs) s)
list_vals s [] = tt
list_vals s (x ∷ xs) = (x, list_vals s xs)

pub list_meet : (s : Part) (xs : List (Val s)) → Each (IsVal s) xs → AreVals (copies (length xs) s) (list_vals s xs)
list_meet s [] h = tt
list_meet s (x ∷ xs) h = (h.0, list_meet s xs h.1)

pub list_vals_pieces : (s : Part) (xs : List (Val s)) → flat_map (pieces_of s) xs ≡ all_pieces (copies (length xs) s) (list_vals s xs)
list_vals_pieces s [] = refl
list_vals_pieces s (x ∷ xs) = ap (λ q. pieces_of s x ++ q) (list_vals_pieces s xs)

abbrev pub vals_list : (s : Part) (n : ℕ) → Vals (copies n s) → List (Val s)
vals_list s zero vs = []
vals_list s (suc n) vs = vs.0 ∷ vals_list s n vs.1

pub vals_count : (s : Part) (n : ℕ) (vs : Vals (copies n s)) → length (vals_list s n vs) ≡ n
vals_count s zero vs = refl
vals_count s (suc n) vs = ap suc (vals_count s n vs.1)

pub vals_each : (s : Part) (n : ℕ) (vs : Vals (copies n s)) → AreVals (copies n s) vs → Each (IsVal s) (vals_list s n vs)
vals_each s zero vs h = tt
vals_each s (suc n) vs h = (h.0, vals_each s n vs.1 h.1)

pub vals_pieces : (s : Part) (n : ℕ) (vs : Vals (copies n s)) → flat_map (pieces_of s) (vals_list s n vs) ≡ all_pieces (copies n s) vs
vals_pieces s zero vs = refl
vals_pieces s (suc n) vs = ap (λ q. pieces_of s vs.0 ++ q) (vals_pieces s n vs.1)

pub copies_inside : (s : Part) (n : ℕ) → is_inside s ≡ true → are_inside (copies n s) ≡ true
copies_inside s zero h = refl
copies_inside s (suc n) h = rw (h, copies_inside s n h) refl
