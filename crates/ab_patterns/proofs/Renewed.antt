-- Names and readings, once a table has grown and a cell is made.
use Rattle.std.proofs.Common.{◌≡◌, ◌≢◌, ℕ, ◌+◌, List, [], ◌∷◌, ◌++◌, map, length, Bool, true, Some, Result, Ok, Err, OnErr, codes, refl, sym, ◌∙◌, ap, subst, arith}
use Rattle.std.specs.List.{All}
use Rattle.std.proofs.lemmas.Bool.{false≢true}
use Rattle.std.proofs.lemmas.List.Elements.{All-head, All-tail, All-weaker}
use Rattle.ab_term.specs.Types.{Ty, kind}
use Rattle.ab_term.specs.Terms as tree
use Rattle.ab_term.specs.Typing as typing
use Rattle.ab_term.specs.Abstraction.{is_name, Named, named_none, named_more}
use Rattle.ab_term.specs.Variables.{image}
use Rattle.ab_term.specs.Sameness.{same_number}
use Rattle.ab_norm.specs.ab_types.specs.Entries.{Table, signature, IsExtendedBy as IsPartOf}
use Rattle.ab_norm.specs.ab_types.specs.Ids.{type_of}
use Rattle.ab_norm.specs.ab_types.proofs.Entries.{same_type, same_signature}
use Rattle.ab_norm.specs.ab_store.specs.declared.node.TermId.{TermId}
use Rattle.ab_norm.specs.ab_store.specs.declared.node.CellId.{CellId}
use Rattle.ab_norm.specs.ab_store.specs.declared.node.CellEntry.{CellEntry}
use Rattle.ab_norm.specs.ab_store.specs.declared.node.Head.{Head}
use Rattle.ab_norm.specs.ab_store.specs.declared.node.Head.TheVariants.{Const, Logic, Nominal, Cell, Index}
use Rattle.ab_norm.specs.ab_store.specs.Trees.{Contents, Holds, HoldsCell, cell_of, tree_of, head_in, head_reading}
use Rattle.ab_norm.specs.ab_store.specs.Reading.{reading, cell_variable}
use Rattle.ab_norm.specs.ab_store.specs.Growth.{IsExtendedBy}
use Rattle.ab_norm.specs.ab_store.specs.Naming.{HoldsHead, HeadIsTyped, IsTypedBy, IsTerm}
use Rattle.ab_norm.specs.ab_store.proofs.Tables.{head_typed, same_tree, same_term, same_reading}
use Rattle.ab_unifiers.specs.Patterns.{applied, kept, kept_type}
use Rattle.ab_unifiers.specs.Replacements.{one}
use Rattle.ab_patterns.proofs.Bound.{still_term}

-- what a name is depends on no cell, and whether a head is one on no table either
name_same : (old more : Table) (C D : List CellEntry) (h : Head) → is_name (head_in old C h) ≡ true → HeadIsTyped old h → head_in (old ++ more) D h ≡ head_in old C h
name_same old more C D (Const c) n h = absurd (false≢true n)
name_same old more C D (Logic l) n h = absurd (false≢true n)
name_same old more C D (Nominal i a) n h = ap (λ A. tree.nominal (record { number = i; type = A })) (same_type old more a h)
name_same old more C D (Cell c) n h = absurd (false≢true n)
name_same old more C D (Index i) n h = refl

still_name : (old new : Table) (C D : List CellEntry) (h : Head) → is_name (head_in old C h) ≡ true → is_name (head_in new D h) ≡ true
still_name old new C D (Const c) n = absurd (false≢true n)
still_name old new C D (Logic l) n = absurd (false≢true n)
still_name old new C D (Nominal i a) n = refl
still_name old new C D (Cell c) n = absurd (false≢true n)
still_name old new C D (Index i) n = refl

names_same : (old more : Table) (C D : List CellEntry) (hs : List Head) → All (λ h. is_name (head_in old C h) ≡ true) hs → All (HeadIsTyped old) hs → map (head_in (old ++ more) D) hs ≡ map (head_in old C) hs
names_same old more C D [] n t = refl
names_same old more C D (h ∷ hs) n t =
    ap (λ g. g ∷ map (head_in (old ++ more) D) hs) (name_same old more C D h (All-head (λ h. is_name (head_in old C h) ≡ true) h hs n) (All-head (HeadIsTyped old) h hs t))
    ∙ ap (λ l. head_in old C h ∷ l) (names_same old more C D hs (All-tail (λ h. is_name (head_in old C h) ≡ true) h hs n) (All-tail (HeadIsTyped old) h hs t))

head_more : (old new : typing.Signature) → typing.IsExtendedBy old new → (G : List Ty) (A : Ty) (h : tree.Head ℕ) → typing.head_type old G h ≡ Some A → typing.head_type new G h ≡ Some A
head_more old new more G A (tree.constant c) e = more c A e
head_more old new more G A (tree.logical l) e = e
head_more old new more G A (tree.nominal a) e = e
head_more old new more G A (tree.variable y) e = e
head_more old new more G A (tree.index i) e = e

pub named_still : {old new : typing.Signature} (more : typing.IsExtendedBy old new) {G : List Ty} {hs : List (tree.Head ℕ)} {A C : Ty} → Named old G hs A C → Named new G hs A C
named_still more named_none = named_none
named_still {old = old} {new = new} more {G = G} (named_more {A = A} {h = h} e n) = named_more (head_more old new more G A h e) (named_still more n)

held_still : (s t : Contents) → IsExtendedBy s t → (h : Head) → HoldsHead s h → HoldsHead t h
held_still s t more (Const c) h = tt
held_still s t more (Logic l) h = tt
held_still s t more (Nominal i a) h = tt
held_still s t more (Cell c) h = more.cell_ids c h
held_still s t more (Index i) h = tt

module _ (old new : Table) (part : IsPartOf old new) (s t : Contents) (more : IsExtendedBy s t) (typed : IsTypedBy old s) where
  pub heads_held : (hs : List Head) → All (HoldsHead s) hs → All (HoldsHead t) hs
  heads_held hs all = All-weaker (HoldsHead s) (HoldsHead t) (held_still s t more) hs all

  pub heads_typed : (hs : List Head) → All (HeadIsTyped old) hs → All (HeadIsTyped new) hs
  heads_typed hs all = subst (λ T. All (HeadIsTyped T) hs) (sym part.1) (All-weaker (HeadIsTyped old) (HeadIsTyped (old ++ part.0)) (head_typed old part.0) hs all)

  pub still_names : (hs : List Head) → All (λ h. is_name (head_reading old s h) ≡ true) hs → All (λ h. is_name (head_reading new t h) ≡ true) hs
  still_names hs all = All-weaker (λ h. is_name (head_reading old s h) ≡ true) (λ h. is_name (head_reading new t h) ≡ true) (still_name old new s.cells t.cells) hs all

  pub names_read : (hs : List Head) → All (λ h. is_name (head_reading old s h) ≡ true) hs → All (HeadIsTyped old) hs → map (head_reading new t) hs ≡ map (head_reading old s) hs
  names_read hs n all = subst (λ T. map (head_in T t.cells) hs ≡ map (head_reading old s) hs) (sym part.1) (names_same old part.0 s.cells t.cells hs n all)

  pub cell_type_same : (c : CellId) → HoldsCell s c → type_of new (cell_of t c).ty ≡ type_of old (cell_of s c).ty
  cell_type_same c held =
      ap (λ e. type_of new e.ty) (more.cells c held)
      ∙ ap (λ T. type_of T (cell_of s c).ty) part.1
      ∙ same_type old part.0 (cell_of s c).ty (typed.cells c.0 _ held)

  pub variable_same : (c : CellId) → HoldsCell s c → cell_variable new t c ≡ cell_variable old s c
  variable_same c held = ap (λ A. record { name = c.0; type = A }) (cell_type_same c held)

  pub reads_same : (r : TermId) → Holds s r → reading new t r ≡ reading old s r
  reads_same r held = more.readings new r held ∙ subst (λ T. reading T s r ≡ reading old s r) (sym part.1) (same_reading old part.0 s typed r)

  pub tree_same : (r : TermId) → Holds s r → tree_of new t r ≡ tree_of old s r
  tree_same r held = more.trees new r held ∙ subst (λ T. tree_of T s r ≡ tree_of old s r) (sym part.1) (same_tree old part.0 s typed r)

  pub term_same : (G : List Ty) (r : TermId) (A : Ty) → IsTerm old s G r A → IsTerm new t G r A
  term_same G r A is = still_term new s t more G r A (subst (λ T. IsTerm T s G r A) (sym part.1) (same_term old part.0 s typed G r A is))

  module _ (cell : CellId) (held : HoldsCell s cell) (names : List Head) (are : All (λ h. is_name (head_reading old s h) ≡ true) names) (all : All (HeadIsTyped old) names) where
    pub still_fits : (G : List Ty) (k : List ℕ) → Named (signature old) G (map (head_reading old s) names) (type_of old (cell_of s cell).ty) (kind k)
        → Named (signature new) G (map (head_reading new t) names) (type_of new (cell_of t cell).ty) (kind k)
    still_fits G k fits =
        subst (λ hs. Named (signature new) G hs (type_of new (cell_of t cell).ty) (kind k)) (sym (names_read names are all))
        (subst (λ A. Named (signature new) G (map (head_reading old s) names) A (kind k)) (sym (cell_type_same cell held))
        (subst (λ T. Named (signature T) G (map (head_reading old s) names) (type_of old (cell_of s cell).ty) (kind k)) (sym part.1)
        (named_still {old = signature old} {new = signature (old ++ part.0)} (same_signature old part.0) fits)))

    -- what the cell becomes, in the words of the store as it was
    pub renewed_reads : (made : CellId) (keep : List Bool) → made.0 ≡ length s.cells → type_of new (cell_of t made).ty ≡ kept_type keep (type_of old (cell_of s cell).ty) → (last : Contents) (r : TermId) → Holds s r
        → reading new last r ≡ image same_number (one (codes "x") (cell_variable new t cell) (map (head_reading new t) names) (applied (codes "x") (cell_variable new t made) (kept keep (map (head_reading new t) names)))) (reading new t r)
        → reading new last r ≡ image same_number (one (codes "x") (cell_variable old s cell) (map (head_reading old s) names) (applied (codes "x") (record { name = length s.cells; type = kept_type keep (cell_variable old s cell).type }) (kept keep (map (head_reading old s) names)))) (reading old s r)
    renewed_reads made keep number ty last r there e =
        e
        ∙ ap (λ hs. image same_number (one (codes "x") (cell_variable new t cell) hs (applied (codes "x") (cell_variable new t made) (kept keep hs))) (reading new t r)) (names_read names are all)
        ∙ ap (λ y. image same_number (one (codes "x") y (map (head_reading old s) names) (applied (codes "x") (cell_variable new t made) (kept keep (map (head_reading old s) names)))) (reading new t r)) (variable_same cell held)
        ∙ ap (λ A. image same_number (one (codes "x") (cell_variable old s cell) (map (head_reading old s) names) (applied (codes "x") (record { name = made.0; type = A }) (kept keep (map (head_reading old s) names)))) (reading new t r)) ty
        ∙ ap (λ (n : ℕ). image same_number (one (codes "x") (cell_variable old s cell) (map (head_reading old s) names) (applied (codes "x") (record { name = n; type = kept_type keep (type_of old (cell_of s cell).ty) }) (kept keep (map (head_reading old s) names)))) (reading new t r)) number
        ∙ ap (image same_number (one (codes "x") (cell_variable old s cell) (map (head_reading old s) names) (applied (codes "x") (record { name = length s.cells; type = kept_type keep (type_of old (cell_of s cell).ty) }) (kept keep (map (head_reading old s) names))))) (reads_same r there)

pub youngest_other : (s : Contents) (made c : CellId) → made.0 ≡ length s.cells → HoldsCell s c → made ≢ c
youngest_other s made c number held e = let same : made.0 ≡ c.0 = ap (λ (i : CellId). i.0) e in omega (arith, number, held, same)

pub youngest_held : (s t : Contents) (made : CellId) → made.0 ≡ length s.cells → length t.cells ≡ length s.cells + 1 → HoldsCell t made
youngest_held s t made number one = omega (arith, number, one)

pub on_err_then : {A E P : Type 0} (r : Result A E) → P → OnErr r P
on_err_then (Ok x) p = tt
on_err_then (Err e) p = p
