-- Items are told by their letters.
use Rattle.std.proofs.Common.{◌≡◌, ◌<◌, ◌+◌, ℕ, zero, suc, Bool, true, false, List, [], ◌∷◌, ◌++◌, length, map, drop, codes, decimal, Option, Some, None, refl, sym, ap, ◌∙◌, subst, append_assoc, arith}
use Rattle.std.specs.List.{flat_map}
use Rattle.std.proofs.lemmas.List.{append-nil}
use Rattle.std.proofs.lemmas.Grind.{flat_map-append}
use Rattle.ab_cert.specs.Plain.{Ty, Term, Clause, Step, Item, kind, const, block, program, theorem}
use Rattle.ab_cert.specs.Tables.{Each, IsName, IsCount, IsList, IsTy, IsTerm, IsClause, IsStep, IsItem, IsCert}
use Rattle.ab_cert.specs.Pieces.{Pieces, type_pieces, term_pieces, list_pieces, clause_pieces, step_pieces, block_piece, item_lines, first_line, last_line, lines_of}
use Rattle.ab_cert.specs.Texts.{line_text, text_of, IsText}
use Rattle.ab_cert.specs.Splits.{pieces_in, index_of, first_piece}
use Rattle.ab_cert.specs.Forms.{block_pieces, IsBlock, theorem_pieces, IsTheorem, item_pieces}
use Rattle.ab_cert.proofs.Clean.{lines_clean}
use Rattle.ab_cert.proofs.Splitting.{lines_pieces}

pub flat_lines : {A : Type 0} (f : A → Pieces) (xs : List A) → flat_map (λ l. l) (map f xs) ≡ flat_map f xs
flat_lines f [] = refl
flat_lines f (x ∷ xs) = ap (λ q. f x ++ q) (flat_lines f xs)

flat_items : (items : List Item) → flat_map (λ l. l) (flat_map item_lines items) ≡ flat_map item_pieces items
flat_items [] = refl
flat_items (x ∷ items) = flat_map-append (λ l. l) (item_lines x) (flat_map item_lines items) ∙ ap (λ q. item_pieces x ++ q) (flat_items items)

-- THE PIECES OF A CERTIFICATE'S TEXT
pub text_pieces : (text : List ℕ) (items : List Item) → IsText text items
    → pieces_in text ≡ codes "abella-cert" ∷ (codes "1" ∷ (flat_map item_pieces items ++ codes "end" ∷ []))
text_pieces text items h =
    ap pieces_in h.spelled
    ∙ (lines_pieces (lines_of items) (lines_clean items h.cert)
    ∙ ap (λ q. codes "abella-cert" ∷ (codes "1" ∷ q))
    (flat_map-append (λ l. l) (flat_map item_lines items) (last_line ∷ []) ∙ ap (λ q. q ++ codes "end" ∷ []) (flat_items items)))

-- blocks and theorems

block_split : (b : Bool) (names : List (List ℕ)) (clauses : List Clause) → item_pieces (block b names clauses) ≡ codes "B" ∷ block_pieces (block b names clauses)
block_split b names clauses =
    let listed = list_pieces (λ x. x ∷ []) names in
    let lines = flat_map (λ l. l) (map (λ c. codes "D" ∷ clause_pieces c) clauses) in
    ap (λ q. codes "B" ∷ (block_piece b ∷ q))
    (append_assoc listed (decimal (length clauses) ∷ []) lines ∙ ap (λ q. listed ++ decimal (length clauses) ∷ q) (flat_lines (λ c. codes "D" ∷ clause_pieces c) clauses))

theorem_split : (x : List ℕ) (formula : Term) (steps : List Step) → item_pieces (theorem x formula steps) ≡ codes "T" ∷ theorem_pieces (theorem x formula steps)
theorem_split x formula steps = ap (λ q. codes "T" ∷ (x ∷ (decimal (length steps) ∷ (term_pieces formula ++ q)))) (flat_lines step_pieces steps)

pub block_read : (x : Item) (rest old l1 l2 l3 new : Pieces) (b : Bool) (ns : List (List ℕ)) (n : ℕ) (cs : List Clause) → IsBlock x → old ≡ block_pieces x ++ rest
    → ((y : Bool) (r : Pieces) → Unit {0} → old ≡ block_piece y ∷ r → (b ≡ y) × (l1 ≡ r))
    → ((y : List (List ℕ)) (r : Pieces) → IsList IsName y → l1 ≡ list_pieces (λ x. x ∷ []) y ++ r → (ns ≡ y) × (l2 ≡ r))
    → ((y : ℕ) (r : Pieces) → IsCount y → l2 ≡ decimal y ∷ r → (n ≡ y) × (l3 ≡ r))
    → ((ys : List Clause) (r : Pieces) → length ys ≡ n → Each IsClause ys → l3 ≡ flat_map (λ c. codes "D" ∷ clause_pieces c) ys ++ r → (cs ≡ ys) × (new ≡ r))
    → (block b ns cs ≡ x) × (new ≡ rest)
block_read (kind x) rest old l1 l2 l3 new b ns n cs h e f g i j = absurd h
block_read (const x ty) rest old l1 l2 l3 new b ns n cs h e f g i j = absurd h
block_read (program c) rest old l1 l2 l3 new b ns n cs h e f g i j = absurd h
block_read (theorem x t ss) rest old l1 l2 l3 new b ns n cs h e f g i j = absurd h
block_read (block y names clauses) rest old l1 l2 l3 new b ns n cs h e f g i j =
    let lines = flat_map (λ c. codes "D" ∷ clause_pieces c) clauses in
    let listed = list_pieces (λ x. x ∷ []) names in
    let p = f y ((listed ++ decimal (length clauses) ∷ lines) ++ rest) tt e in
    let q = g names (decimal (length clauses) ∷ (lines ++ rest)) h.0 (p.1 ∙ append_assoc listed (decimal (length clauses) ∷ lines) rest) in
    let r = i (length clauses) (lines ++ rest) h.1.0 q.1 in
    let s = j clauses rest (sym r.0) h.1.1 r.1 in
    (ap (λ z. block z ns cs) p.0 ∙ (ap (λ z. block y z cs) q.0 ∙ ap (block y names) s.0), s.1)

pub theorem_read : (x : Item) (rest old l1 l2 l3 new : Pieces) (v : List ℕ) (n : ℕ) (t : Term) (ss : List Step) → IsTheorem x → old ≡ theorem_pieces x ++ rest
    → ((y : List ℕ) (r : Pieces) → IsName y → old ≡ y ∷ r → (v ≡ y) × (l1 ≡ r))
    → ((y : ℕ) (r : Pieces) → IsCount y → l1 ≡ decimal y ∷ r → (n ≡ y) × (l2 ≡ r))
    → ((y : Term) (r : Pieces) → IsTerm y → l2 ≡ term_pieces y ++ r → (t ≡ y) × (l3 ≡ r))
    → ((ys : List Step) (r : Pieces) → length ys ≡ n → Each IsStep ys → l3 ≡ flat_map step_pieces ys ++ r → (ss ≡ ys) × (new ≡ r))
    → (theorem v t ss ≡ x) × (new ≡ rest)
theorem_read (kind x) rest old l1 l2 l3 new v n t ss h e f g i j = absurd h
theorem_read (const x ty) rest old l1 l2 l3 new v n t ss h e f g i j = absurd h
theorem_read (program c) rest old l1 l2 l3 new v n t ss h e f g i j = absurd h
theorem_read (block y names clauses) rest old l1 l2 l3 new v n t ss h e f g i j = absurd h
theorem_read (theorem x formula steps) rest old l1 l2 l3 new v n t ss h e f g i j =
    let lines = flat_map step_pieces steps in
    let p = f x (decimal (length steps) ∷ ((term_pieces formula ++ lines) ++ rest)) h.0 e in
    let q = g (length steps) ((term_pieces formula ++ lines) ++ rest) h.2.0 p.1 in
    let r = i formula (lines ++ rest) h.1 (q.1 ∙ append_assoc (term_pieces formula) lines rest) in
    let s = j steps rest (sym q.0) h.2.1 r.1 in
    (ap (λ z. theorem z t ss) p.0 ∙ (ap (λ z. theorem x z ss) r.0 ∙ ap (theorem x formula) s.0), s.1)

-- letters

abbrev pub letters : List (List ℕ)
letters = codes "K" ∷ (codes "C" ∷ (codes "B" ∷ (codes "S" ∷ (codes "T" ∷ []))))

abbrev pub letter_place : Item → ℕ
letter_place (kind x) = 0
letter_place (const x ty) = 1
letter_place (block b names clauses) = 2
letter_place (program c) = 3
letter_place (theorem x formula steps) = 4

-- an item behind its letter
abbrev pub behind : Item → Pieces
behind (kind x) = x ∷ []
behind (const x ty) = x ∷ type_pieces ty
behind (block b names clauses) = block_pieces (block b names clauses)
behind (program c) = clause_pieces c
behind (theorem x formula steps) = theorem_pieces (theorem x formula steps)

abbrev letter_of : Item → List ℕ
letter_of (kind x) = codes "K"
letter_of (const x ty) = codes "C"
letter_of (block b names clauses) = codes "B"
letter_of (program c) = codes "S"
letter_of (theorem x formula steps) = codes "T"

item_split : (x : Item) → item_pieces x ≡ letter_of x ∷ behind x
item_split (kind x) = refl
item_split (const x ty) = ap (λ q. codes "C" ∷ (x ∷ q)) (append-nil (type_pieces ty))
item_split (block b names clauses) = block_split b names clauses
item_split (program c) = ap (λ q. codes "S" ∷ q) (append-nil (clause_pieces c))
item_split (theorem x formula steps) = theorem_split x formula steps

letter_at : (x : Item) → index_of letters (letter_of x) ≡ letter_place x
letter_at (kind x) = refl
letter_at (const x ty) = refl
letter_at (block b names clauses) = refl
letter_at (program c) = refl
letter_at (theorem x formula steps) = refl

module _ (x : Item) (rest old left : Pieces) (piece : List ℕ) (place : ℕ) (e : old ≡ item_pieces x ++ rest) (p : piece ≡ first_piece old) (l : left ≡ drop 1 old) (q : place ≡ index_of letters piece) where
  whole : old ≡ letter_of x ∷ (behind x ++ rest)
  whole = e ∙ ap (λ z. z ++ rest) (item_split x)

  pub place_of_item : place ≡ letter_place x
  place_of_item = q ∙ (ap (index_of letters) (p ∙ ap first_piece whole) ∙ letter_at x)

  pub left_of_item : left ≡ behind x ++ rest
  left_of_item = l ∙ ap (drop 1) whole

pub place_of_end : (rest old : Pieces) (piece : List ℕ) (place : ℕ) → old ≡ codes "end" ∷ rest → piece ≡ first_piece old → place ≡ index_of letters piece → place ≡ 5
place_of_end rest old piece place e p q = q ∙ ap (index_of letters) (p ∙ ap first_piece e)

module _ (rest left new : Pieces) where
  pub kind_read : (x : Item) (v : List ℕ) → IsItem x → letter_place x ≡ 0 → left ≡ behind x ++ rest
      → ((y : List ℕ) (r : Pieces) → IsName y → left ≡ y ∷ r → (v ≡ y) × (new ≡ r)) → (kind v ≡ x) × (new ≡ rest)
  kind_read (kind x) v h z l f = let g = f x rest h l in (ap kind g.0, g.1)
  kind_read (const x ty) v h z l f = cc
  kind_read (block b names clauses) v h z l f = cc
  kind_read (program c) v h z l f = cc
  kind_read (theorem x formula steps) v h z l f = cc

  pub const_read : (x : Item) (v : List ℕ) (t : Ty) → IsItem x → letter_place x ≡ 1 → left ≡ behind x ++ rest
      → ((y : List ℕ × Ty) (r : Pieces) → IsName y.0 × IsTy y.1 → left ≡ ((y.0 ∷ []) ++ type_pieces y.1) ++ r → ((v, t) ≡ y) × (new ≡ r)) → (const v t ≡ x) × (new ≡ rest)
  const_read (kind x) v t h z l f = cc
  const_read (const x ty) v t h z l f = let g = f (x, ty) rest h l in (ap (λ q. const q.0 q.1) g.0, g.1)
  const_read (block b names clauses) v t h z l f = cc
  const_read (program c) v t h z l f = cc
  const_read (theorem x formula steps) v t h z l f = cc

  pub block_taken : (x : Item) (v : Item) → IsItem x → letter_place x ≡ 2 → left ≡ behind x ++ rest
      → ((y : Item) (r : Pieces) → IsBlock y → left ≡ block_pieces y ++ r → (v ≡ y) × (new ≡ r)) → (v ≡ x) × (new ≡ rest)
  block_taken (kind x) v h z l f = cc
  block_taken (const x ty) v h z l f = cc
  block_taken (block b names clauses) v h z l f = f (block b names clauses) rest h l
  block_taken (program c) v h z l f = cc
  block_taken (theorem x formula steps) v h z l f = cc

  pub program_read : (x : Item) (v : Clause) → IsItem x → letter_place x ≡ 3 → left ≡ behind x ++ rest
      → ((y : Clause) (r : Pieces) → IsClause y → left ≡ clause_pieces y ++ r → (v ≡ y) × (new ≡ r)) → (program v ≡ x) × (new ≡ rest)
  program_read (kind x) v h z l f = cc
  program_read (const x ty) v h z l f = cc
  program_read (block b names clauses) v h z l f = cc
  program_read (program c) v h z l f = let g = f c rest h l in (ap program g.0, g.1)
  program_read (theorem x formula steps) v h z l f = cc

  pub theorem_taken : (x : Item) (v : Item) → IsItem x → letter_place x ≡ 4 → left ≡ behind x ++ rest
      → ((y : Item) (r : Pieces) → IsTheorem y → left ≡ theorem_pieces y ++ r → (v ≡ y) × (new ≡ r)) → (v ≡ x) × (new ≡ rest)
  theorem_taken (kind x) v h z l f = cc
  theorem_taken (const x ty) v h z l f = cc
  theorem_taken (block b names clauses) v h z l f = cc
  theorem_taken (program c) v h z l f = cc
  theorem_taken (theorem x formula steps) v h z l f = f (theorem x formula steps) rest h l

pub letter_bound : (x : Item) → letter_place x < 5
letter_bound (kind x) = omega arith
letter_bound (const x ty) = omega arith
letter_bound (block b names clauses) = omega arith
letter_bound (program c) = omega arith
letter_bound (theorem x formula steps) = omega arith
