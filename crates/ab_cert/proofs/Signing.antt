-- Logical constants and heads are told by their words.
use Rattle.std.proofs.Common.{◌≡◌, ℕ, List, [], ◌∷◌, ◌++◌, drop, codes, decimal, Some, refl, sym, ap, ◌∙◌, subst}
use Rattle.ab_cert.specs.declared.type_tree.TypeTree.{TypeTree}
use Rattle.ab_cert.specs.declared.head.CertSign.{CertSign}
use Rattle.ab_cert.specs.Plain.{Ty, Detail, bare, with_type, with_level, Sign, Head, constant, logic, nominal, cell, index}
use Rattle.ab_cert.specs.Tables.{IsName, IsLong, IsCount, IsTy, Kind, nothing, a_type, a_level, kind_of, signs, value_at, IsDetail, IsSign, IsHead}
use Rattle.ab_cert.specs.Pieces.{Pieces, type_pieces, detail_pieces, head_pieces}
use Rattle.ab_cert.specs.Signs.{type_of, sign_of}
use Rattle.ab_cert.specs.Splits.{index_of, first_piece}
use Rattle.ab_cert.proofs.Words.{row_at, heads_of, found_at}

some_same : {A : Type 0} (a b : A) → Some a ≡ Some b → a ≡ b
some_same a b e = cc

some_pair : {A B : Type 0} (p q : A × B) → Some p ≡ Some q → (p.0 ≡ q.0) × (p.1 ≡ q.1)
some_pair p q e =
    let same = some_same p q e in
    (ap (λ r. r.0) same, ap (λ r. r.1) same)

pub record SignFound (w : List ℕ) (k : Kind) (x : Sign) (rest left : Pieces) : Type 0 where
  pub word : x.word ≡ w
  pub kind : kind_of x.detail ≡ k
  pub left_is : left ≡ detail_pieces x.detail ++ rest
  pub detail : IsDetail x.detail

pub place_of_sign : (x : Sign) (rest old : Pieces) (piece : List ℕ) (place : ℕ) → IsSign x → old ≡ x.word ∷ (detail_pieces x.detail ++ rest) → piece ≡ first_piece old
    → place ≡ index_of (heads_of signs) piece → row_at signs place ≡ Some (x.word, kind_of x.detail)
place_of_sign x rest old piece place h e p q =
    ap (row_at signs) (q ∙ ap (index_of (heads_of signs)) (p ∙ ap first_piece e)) ∙ found_at signs x.word (kind_of x.detail) h.known

pub sign_found : (x : Sign) (rest old left : Pieces) (piece : List ℕ) (place n : ℕ) (w : List ℕ) (k : Kind) → IsSign x → old ≡ x.word ∷ (detail_pieces x.detail ++ rest)
    → piece ≡ first_piece old → left ≡ drop 1 old → place ≡ index_of (heads_of signs) piece → place ≡ n → row_at signs n ≡ Some (w, k) → SignFound w k x rest left
sign_found x rest old left piece place n w k h e p l q z r =
    let same : Some (x.word, kind_of x.detail) ≡ Some (w, k) = sym (place_of_sign x rest old piece place h e p q) ∙ (ap (row_at signs) z ∙ r) in
    let both = some_pair (x.word, kind_of x.detail) (w, k) same in
    record { word = both.0; kind = both.1; left_is = l ∙ ap (drop 1) e; detail = h.detail }

only_bare : (d : Detail) → kind_of d ≡ nothing → d ≡ bare
only_bare bare e = refl
only_bare (with_type ty) e = cc
only_bare (with_level n) e = cc

only_typed : (d : Detail) → kind_of d ≡ a_type → (ty : Ty) × (d ≡ with_type ty)
only_typed bare e = cc
only_typed (with_type ty) e = (ty, refl)
only_typed (with_level n) e = cc

only_level : (d : Detail) → kind_of d ≡ a_level → (n : ℕ) × (d ≡ with_level n)
only_level bare e = cc
only_level (with_type ty) e = cc
only_level (with_level n) e = (n, refl)

made : (w : List ℕ) (d : Detail) (x : Sign) → x.word ≡ w → x.detail ≡ d → record { word = w; detail = d } ≡ x
made w d x e f = sym (ap (λ v. record { word = v; detail = x.detail }) e ∙ ap (λ v. record { word = w; detail = v }) f)

pub bare_found : (w : List ℕ) (x : Sign) (rest left : Pieces) → SignFound w nothing x rest left → (record { word = w; detail = bare } ≡ x) × (left ≡ rest)
bare_found w x rest left s =
    let d = only_bare x.detail s.kind in
    (made w bare x s.word d, s.left_is ∙ ap (λ q. detail_pieces q ++ rest) d)

pub typed_found : (w : List ℕ) (x : Sign) (rest left new : Pieces) (v : TypeTree) → SignFound w a_type x rest left
    → ((y : Ty) (r : Pieces) → IsTy y → left ≡ type_pieces y ++ r → (type_of v ≡ y) × (new ≡ r)) → (record { word = w; detail = with_type (type_of v) } ≡ x) × (new ≡ rest)
typed_found w x rest left new v s h =
    let d = only_typed x.detail s.kind in
    let g = h d.0 rest (subst IsDetail d.1 s.detail) (s.left_is ∙ ap (λ q. detail_pieces q ++ rest) d.1) in
    (made w (with_type (type_of v)) x s.word (d.1 ∙ ap with_type (sym g.0)), g.1)

pub level_found : (w : List ℕ) (x : Sign) (rest left new : Pieces) (v : ℕ) → SignFound w a_level x rest left
    → ((y : ℕ) (r : Pieces) → IsLong y → left ≡ decimal y ∷ r → (v ≡ y) × (new ≡ r)) → (record { word = w; detail = with_level v } ≡ x) × (new ≡ rest)
level_found w x rest left new v s h =
    let d = only_level x.detail s.kind in
    let g = h d.0 rest (subst IsDetail d.1 s.detail) (s.left_is ∙ ap (λ q. detail_pieces q ++ rest) d.1) in
    (made w (with_level v) x s.word (d.1 ∙ ap with_level (sym g.0)), g.1)

-- heads

abbrev pub letters : List (List ℕ)
letters = codes "c" ∷ (codes "l" ∷ (codes "n" ∷ (codes "v" ∷ (codes "i" ∷ []))))

abbrev pub letter_of : Head → List ℕ
letter_of (constant c) = codes "c"
letter_of (logic s) = codes "l"
letter_of (nominal n ty) = codes "n"
letter_of (cell x) = codes "v"
letter_of (index i) = codes "i"

first_letter : (x : Head) (rest : Pieces) → first_piece (head_pieces x ++ rest) ≡ letter_of x
first_letter (constant c) rest = refl
first_letter (logic s) rest = refl
first_letter (nominal n ty) rest = refl
first_letter (cell x) rest = refl
first_letter (index i) rest = refl

pub place_of_head : (x : Head) (rest old : Pieces) (piece : List ℕ) (place : ℕ) → old ≡ head_pieces x ++ rest → piece ≡ first_piece old → place ≡ index_of letters piece
    → place ≡ index_of letters (letter_of x)
place_of_head x rest old piece place e p q = q ∙ ap (index_of letters) (p ∙ (ap first_piece e ∙ first_letter x rest))

module _ (rest old left new : Pieces) (l : left ≡ drop 1 old) where
  pub constant_found : (x : Head) (v : List ℕ) → IsHead x → old ≡ head_pieces x ++ rest → index_of letters (letter_of x) ≡ 0
      → ((y : List ℕ) (r : Pieces) → IsName y → left ≡ y ∷ r → (v ≡ y) × (new ≡ r)) → (constant v ≡ x) × (new ≡ rest)
  constant_found (constant c) v h e z f = let g = f c rest h (l ∙ ap (drop 1) e) in (ap constant g.0, g.1)
  constant_found (logic s) v h e z f = cc
  constant_found (nominal n ty) v h e z f = cc
  constant_found (cell x) v h e z f = cc
  constant_found (index i) v h e z f = cc

  pub logic_found : (x : Head) (v : Sign) → IsHead x → old ≡ head_pieces x ++ rest → index_of letters (letter_of x) ≡ 1
      → ((y : Sign) (r : Pieces) → IsSign y → left ≡ y.word ∷ (detail_pieces y.detail ++ r) → (v ≡ y) × (new ≡ r)) → (logic v ≡ x) × (new ≡ rest)
  logic_found (constant c) v h e z f = cc
  logic_found (logic s) v h e z f = let g = f s rest h (l ∙ ap (drop 1) e) in (ap logic g.0, g.1)
  logic_found (nominal n ty) v h e z f = cc
  logic_found (cell x) v h e z f = cc
  logic_found (index i) v h e z f = cc

  pub nominal_found : (x : Head) (k : ℕ) (v : Ty) (mid : Pieces) → IsHead x → old ≡ head_pieces x ++ rest → index_of letters (letter_of x) ≡ 2
      → ((y : ℕ) (r : Pieces) → IsLong y → left ≡ decimal y ∷ r → (k ≡ y) × (mid ≡ r))
      → ((y : Ty) (r : Pieces) → IsTy y → mid ≡ type_pieces y ++ r → (v ≡ y) × (new ≡ r)) → (nominal k v ≡ x) × (new ≡ rest)
  nominal_found (constant c) k v mid h e z f t = cc
  nominal_found (logic s) k v mid h e z f t = cc
  nominal_found (nominal n ty) k v mid h e z f t =
      let g = f n (type_pieces ty ++ rest) h.0 (l ∙ ap (drop 1) e) in
      let i = t ty rest h.1 g.1 in
      (ap (λ q. nominal q v) g.0 ∙ ap (nominal n) i.0, i.1)
  nominal_found (cell x) k v mid h e z f t = cc
  nominal_found (index i) k v mid h e z f t = cc

  pub cell_found : (x : Head) (v : List ℕ) → IsHead x → old ≡ head_pieces x ++ rest → index_of letters (letter_of x) ≡ 3
      → ((y : List ℕ) (r : Pieces) → IsName y → left ≡ y ∷ r → (v ≡ y) × (new ≡ r)) → (cell v ≡ x) × (new ≡ rest)
  cell_found (constant c) v h e z f = cc
  cell_found (logic s) v h e z f = cc
  cell_found (nominal n ty) v h e z f = cc
  cell_found (cell x) v h e z f = let g = f x rest h (l ∙ ap (drop 1) e) in (ap cell g.0, g.1)
  cell_found (index i) v h e z f = cc

  pub index_found : (x : Head) (v : ℕ) → IsHead x → old ≡ head_pieces x ++ rest → (index_of letters (letter_of x) ≡ 0 → ⊥) → (index_of letters (letter_of x) ≡ 1 → ⊥)
      → (index_of letters (letter_of x) ≡ 2 → ⊥) → (index_of letters (letter_of x) ≡ 3 → ⊥)
      → ((y : ℕ) (r : Pieces) → IsCount y → left ≡ decimal y ∷ r → (v ≡ y) × (new ≡ r)) → (index v ≡ x) × (new ≡ rest)
  index_found (constant c) v h e a b n2 d f = absurd (a refl)
  index_found (logic s) v h e a b n2 d f = absurd (b refl)
  index_found (nominal n ty) v h e a b n2 d f = absurd (n2 refl)
  index_found (cell x) v h e a b n2 d f = absurd (d refl)
  index_found (index i) v h e a b n2 d f = let g = f i rest h (l ∙ ap (drop 1) e) in (ap index g.0, g.1)
