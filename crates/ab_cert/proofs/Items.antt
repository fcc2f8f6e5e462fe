-- Lines are read in one way, and so a text is that of one certificate.
use Rattle.std.proofs.Common.{◌≡◌, ℕ, Bool, true, false, List, [], ◌∷◌, ◌++◌, length, map, codes, decimal, refl, sym, ap, ◌∙◌, append_assoc}
use Rattle.std.specs.List.{flat_map}
use Rattle.ab_cert.specs.Plain.{Ty, Term, Clause, Item, kind, const, block, program, theorem}
use Rattle.ab_cert.specs.Tables.{IsName, Each, IsTy, IsTerm, IsStep, IsClause, IsItem, IsCert}
use Rattle.ab_cert.specs.Pieces.{Pieces, type_pieces, term_pieces, step_pieces, clause_pieces, list_pieces, block_piece, item_lines, last_line, lines_of}
use Rattle.ab_cert.specs.Texts.{IsText}
use Rattle.ab_cert.proofs.Lines.{one_list}
use Rattle.ab_cert.proofs.Clean.{lines_clean, count_wide}
use Rattle.ab_cert.proofs.Heads.{one_number, unlike, unlike_lines}
use Rattle.ab_cert.proofs.Cuts.{type_cut, term_cut, name_cut, list_cut, step_same, clause_same}

-- the things are equal, and so are the lines that follow
abbrev pub SameLines : {A : Type 0} → A → A → List Pieces → List Pieces → Type 0
SameLines x y m n = (x ≡ y) × (m ≡ n)

rows_cut : {A : Type 0} (P : A → Type 0) (row : A → Pieces) → ((x y : A) → P x → P y → row x ≡ row y → x ≡ y) → (xs ys : List A) (m n : List Pieces) → length xs ≡ length ys → Each P xs → Each P ys → map row xs ++ m ≡ map row ys ++ n → SameLines xs ys m n
rows_cut P row same [] [] m n c h i e = (refl, e)
rows_cut P row same [] (y ∷ ys) m n c h i e = cc
rows_cut P row same (x ∷ xs) [] m n c h i e = cc
rows_cut P row same (x ∷ xs) (y ∷ ys) m n c h i e =
    let f : row x ≡ row y = cc in
    let g : map row xs ++ m ≡ map row ys ++ n = cc in
    let d : length xs ≡ length ys = cc in
    let k = rows_cut P row same xs ys m n d h.1 i.1 g in
    (ap (λ z. z ∷ xs) (same x y h.0 i.0 f) ∙ ap (λ z. y ∷ z) k.0, k.1)

type_same : (a b : Ty) → IsTy a → IsTy b → type_pieces a ≡ type_pieces b → a ≡ b
type_same a b h i e = (type_cut a b [] [] h i (ap (λ z. z ++ []) e)).0

term_same : (a b : Term) → IsTerm a → IsTerm b → term_pieces a ≡ term_pieces b → a ≡ b
term_same a b h i e = (term_cut a b [] [] h i (ap (λ z. z ++ []) e)).0

d_line : (c d : Clause) → IsClause c → IsClause d → codes "D" ∷ clause_pieces c ≡ codes "D" ∷ clause_pieces d → c ≡ d
d_line c d h i e = let f : clause_pieces c ≡ clause_pieces d = cc in clause_same c d h i f

flag_same : (a b : Bool) → block_piece a ≡ block_piece b → a ≡ b
flag_same true true e = refl
flag_same false false e = refl
flag_same true false e = absurd (unlike (block_piece true ∷ []) (block_piece false ∷ []) refl (ap (λ z. z ∷ []) e))
flag_same false true e = absurd (unlike (block_piece false ∷ []) (block_piece true ∷ []) refl (ap (λ z. z ∷ []) e))

item_cut : (x y : Item) (m n : List Pieces) → IsItem x → IsItem y → item_lines x ++ m ≡ item_lines y ++ n → SameLines x y m n
item_cut (kind x) (kind y) m n h i e =
    let f : x ≡ y = cc in
    let g : m ≡ n = cc in
    (ap kind f, g)
item_cut (const x a) (const y b) m n h i e =
    let f : x ≡ y = cc in
    let t : type_pieces a ≡ type_pieces b = cc in
    let g : m ≡ n = cc in
    (ap (λ z. const z a) f ∙ ap (λ z. const y z) (type_same a b h.1 i.1 t), g)
item_cut (block p xs cs) (block q ys ds) m n h i e =
    let f : block_piece p ≡ block_piece q = cc in
    let l : list_pieces (λ x. x ∷ []) xs ++ decimal (length cs) ∷ [] ≡ list_pieces (λ x. x ∷ []) ys ++ decimal (length ds) ∷ [] = cc in
    let g : map (λ c. codes "D" ∷ clause_pieces c) cs ++ m ≡ map (λ c. codes "D" ∷ clause_pieces c) ds ++ n = cc in
    let j = list_cut IsName (λ x. x ∷ []) name_cut xs ys (decimal (length cs) ∷ []) (decimal (length ds) ∷ []) h.0 i.0 l in
    let o : decimal (length cs) ∷ [] ≡ decimal (length ds) ∷ [] = j.1 in
    let d : decimal (length cs) ≡ decimal (length ds) = cc in
    let count = one_number (length cs) (length ds) (count_wide (length cs) h.1.0) (count_wide (length ds) i.1.0) d in
    let k = rows_cut IsClause (λ c. codes "D" ∷ clause_pieces c) d_line cs ds m n count h.1.1 i.1.1 g in
    (ap (λ z. block z xs cs) (flag_same p q f) ∙ (ap (λ z. block q z cs) j.0 ∙ ap (λ z. block q ys z) k.0), k.1)
item_cut (program c) (program d) m n h i e =
    let f : clause_pieces c ≡ clause_pieces d = cc in
    let g : m ≡ n = cc in
    (ap program (clause_same c d h i f), g)
item_cut (theorem x a ss) (theorem y b ts) m n h i e =
    let f : x ≡ y = cc in
    let d : decimal (length ss) ≡ decimal (length ts) = cc in
    let t : term_pieces a ≡ term_pieces b = cc in
    let g : map step_pieces ss ++ m ≡ map step_pieces ts ++ n = cc in
    let count = one_number (length ss) (length ts) (count_wide (length ss) h.2.0) (count_wide (length ts) i.2.0) d in
    let k = rows_cut IsStep step_pieces step_same ss ts m n count h.2.1 i.2.1 g in
    (ap (λ z. theorem z a ss) f ∙ (ap (λ z. theorem y z ss) (term_same a b h.1 i.1 t) ∙ ap (λ z. theorem y b z) k.0), k.1)
item_cut x y m n h i e = absurd (unlike_lines (item_lines x ++ m) (item_lines y ++ n) refl e)

not_last : (y : Item) (m n : List Pieces) → last_line ∷ m ≡ item_lines y ++ n → ⊥
not_last y m n e = elim y as (λ z. last_line ∷ m ≡ item_lines z ++ n → ⊥) [
  | kind x ↦ unlike_lines (last_line ∷ m) (item_lines (kind x) ++ n) refl
  | const x a ↦ unlike_lines (last_line ∷ m) (item_lines (const x a) ++ n) refl
  | block p xs cs ↦ unlike_lines (last_line ∷ m) (item_lines (block p xs cs) ++ n) refl
  | program c ↦ unlike_lines (last_line ∷ m) (item_lines (program c) ++ n) refl
  | theorem x a ss ↦ unlike_lines (last_line ∷ m) (item_lines (theorem x a ss) ++ n) refl
] e

pub items_cut : (xs ys : List Item) (r s : List Pieces) → IsCert xs → IsCert ys → flat_map item_lines xs ++ last_line ∷ r ≡ flat_map item_lines ys ++ last_line ∷ s → xs ≡ ys
items_cut [] [] r s h i e = refl
items_cut [] (y ∷ ys) r s h i e = absurd (not_last y r (flat_map item_lines ys ++ last_line ∷ s) (e ∙ append_assoc (item_lines y) (flat_map item_lines ys) (last_line ∷ s)))
items_cut (x ∷ xs) [] r s h i e = absurd (not_last x s (flat_map item_lines xs ++ last_line ∷ r) (sym e ∙ append_assoc (item_lines x) (flat_map item_lines xs) (last_line ∷ r)))
items_cut (x ∷ xs) (y ∷ ys) r s h i e =
    let g = sym (append_assoc (item_lines x) (flat_map item_lines xs) (last_line ∷ r)) ∙ (e ∙ append_assoc (item_lines y) (flat_map item_lines ys) (last_line ∷ s)) in
    let j = item_cut x y (flat_map item_lines xs ++ last_line ∷ r) (flat_map item_lines ys ++ last_line ∷ s) h.0 i.0 g in
    ap (λ z. z ∷ xs) j.0 ∙ ap (λ z. y ∷ z) (items_cut xs ys r s h.1 i.1 j.1)

-- A TEXT IS THAT OF ONE CERTIFICATE
pub one_cert : (text : List ℕ) (xs ys : List Item) → IsText text xs → IsText text ys → xs ≡ ys
one_cert text xs ys h i =
    let lines = one_list (lines_of xs) (lines_of ys) (lines_clean xs h.cert) (lines_clean ys i.cert) (sym h.spelled ∙ i.spelled) in
    let rest : flat_map item_lines xs ++ last_line ∷ [] ≡ flat_map item_lines ys ++ last_line ∷ [] = cc in
    items_cut xs ys [] [] h.cert i.cert rest
