-- One change after another, and stores that have only got terms.
use Rattle.std.proofs.Common.{◌≡◌, ◌⊎◌, inl, inr, ℕ, zero, suc, ◌<◌, List, [], ◌∷◌, map, length, codes, refl, sym, ◌∙◌, ap, subst, arith}
use Rattle.std.specs.Prelude.{All, Contains}
use Rattle.std.proofs.lemmas.List.Elements.{All-nil, All-cons, All-head, All-tail, All-weaker}
use Rattle.ab_term.specs.Types.{Ty}
use Rattle.ab_term.specs.Variables.{Substitution, image, composition}
use Rattle.ab_term.specs.Sameness.{same_number}
use Rattle.ab_term.proofs.Compositions.{image-composition, composition_typed}
use Rattle.ab_norm.specs.ab_types.specs.Entries.{Table, signature}
use Rattle.ab_norm.specs.ab_store.specs.declared.node.TermId.{TermId}
use Rattle.ab_norm.specs.ab_store.specs.declared.node.CellId.{CellId}
use Rattle.ab_norm.specs.ab_store.specs.Trees.{Contents, HoldsCell}
use Rattle.ab_norm.specs.ab_store.specs.Reading.{reading}
use Rattle.ab_norm.specs.ab_store.specs.Naming.{IsTypedBy, IsTerm}
use Rattle.ab_norm.specs.ab_store.proofs.Putting.{read_typed}
use Rattle.ab_patterns.specs.declared.equation.Numbered.{Numbered}
use Rattle.ab_patterns.specs.ab_unifiers.specs.Replacements.{Change}
use Rattle.ab_patterns.specs.ab_unifiers.specs.Unification.{image_of, rule, unchanged}
use Rattle.ab_patterns.specs.ab_unifiers.proofs.Ruling.{image_none}
use Rattle.ab_unify.specs.Problem.{cells_read, variables_read}
use Rattle.ab_unify.specs.StoreChanges.{Grows, IsFree, Changed}
use Rattle.ab_unify.specs.Outcome.{equation_read, IsTypedEquation, still}
use Rattle.ab_unify.proofs.Growth.{grows_on, lifted, lifted_all, grown_term, was_unbound}
use Rattle.ab_unify.proofs.Put.{starts}
use Rattle.ab_unify.specs.States.{IsAtRest, Reaches}

low_or_not : (n m : ℕ) → (n < m) ⊎ (n < m → ⊥)
low_or_not n zero = inr (λ l. omega (arith, l))
low_or_not zero (suc m) = inl (omega arith)
low_or_not (suc n) (suc m) = go (low_or_not n m)
  where
    go : (n < m) ⊎ (n < m → ⊥) → (suc n < suc m) ⊎ (suc n < suc m → ⊥)
    go (inl l) = inl (omega (arith, l))
    go (inr h) = inr (λ l. h (omega (arith, l)))

-- A CHANGE AFTER A CHANGE
pub then_changed : (T U W : Table) (S V X : Contents) (F G H : List CellId) (b c : Change (List ℕ)) → Changed T S F b U V G → Changed U V G c W X H
    → Changed T S F (record { cells = c.cells; flexible = c.flexible; pairs = composition same_number b.pairs c.pairs }) W X H
then_changed T U W S V X F G H b c was more =
    let safe = lifted_all U W more.grows.table b.pairs was.safe in
    record {
      start = was.start;
      grows = grows_on T U W S V X was.grows more.grows;
      safe = composition_typed (signature W) same_number b.pairs safe c.pairs more.safe;
      cells = more.cells;
      still = more.still;
      free = more.free;
      reads = λ G t A is.
          let there = grown_term T U S V was.grows G t A is in
          let typed = lifted U W more.grows.table (lifted T U was.grows.table (read_typed T S was.start G t A is.1)) in
          more.reads G t A there
          ∙ ap (image same_number c.pairs) (was.reads G t A is)
          ∙ sym (image-composition (signature W) same_number b.pairs safe c.pairs more.safe typed);
      others = λ d fr no. let on = was.others d fr no in more.others d on.0 on.1;
      left = λ d fr which. go d fr which (low_or_not d.0 (length V.cells));
    }
  where
    go : (d : CellId) → IsFree X d → (Contains F d ⊎ (¬ HoldsCell S d)) → (HoldsCell V d ⊎ (HoldsCell V d → ⊥)) → Contains H d
    go d fr which (inl low) = more.left d fr (inl (was.left d (low, was_unbound U W V X more.start more.grows d fr.1) which))
    go d fr which (inr new) = more.left d fr (inr new)

-- nothing is replaced
abbrev pub Keeps : Table → Contents → List CellId → Table → Contents → List CellId → Type 0
Keeps types store F more now H = Changed types store F (still types store F) more now H

pub keeps_itself : (types : Table) (store : Contents) (F : List CellId) → IsTypedBy types store → All (IsFree store) F → Keeps types store F types store F
keeps_itself types store F typed free = starts types store typed F free (variables_read types store F) refl

module _ (types more : Table) (store now : Contents) (F H : List CellId) (k : Keeps types store F more now H) where
  pub still_same : still more now H ≡ still types store F
  still_same =
      ap (λ l. unchanged (codes "x") l (variables_read more now H)) k.cells
      ∙ ap (λ l. unchanged (codes "x") (cells_read types store) l) k.still

  pub keeps_then : (U : Table) (V : Contents) (G : List CellId) (c : Change (List ℕ)) → Changed more now H c U V G → Changed types store F c U V G
  keeps_then U V G c b = then_changed types more U store now V F H G (still types store F) c k b

  pub keeps_on : (U : Table) (V : Contents) (G : List CellId) → Keeps more now H U V G → Keeps types store F U V G
  keeps_on U V G b = subst (λ c. Changed types store F c U V G) still_same (keeps_then U V G (still more now H) b)

  keeps_reads : (G : List Ty) (t : TermId) (A : Ty) → IsTerm types store G t A → reading more now t ≡ reading types store t
  keeps_reads G t A is = k.reads G t A is ∙ image_none (reading types store t)

  pub keeps_equation : (e : Numbered) → IsTypedEquation types store e → equation_read more now e ≡ equation_read types store e
  keeps_equation e d =
      ap (λ l. record { place = e.place; left = l; right = reading more now e.right }) (keeps_reads d.0 e.left d.1 d.2)
      ∙ ap (λ r. record { place = e.place; left = reading types store e.left; right = r }) (keeps_reads d.0 e.right d.1 d.3)

  pub keeps_equations : (es : List Numbered) → All (IsTypedEquation types store) es → map (equation_read more now) es ≡ map (equation_read types store) es
  keeps_equations [] all = refl
  keeps_equations (e ∷ es) all =
      ap (λ f. f ∷ map (equation_read more now) es) (keeps_equation e (All-head (IsTypedEquation types store) e es all))
      ∙ ap (λ l. equation_read types store e ∷ l) (keeps_equations es (All-tail (IsTypedEquation types store) e es all))

  pub rest_on : (e : Numbered) → IsTypedEquation types store e → IsAtRest types store F e → IsAtRest more now H e
  rest_on e d rest =
      ap (λ l. rule (codes "x") l (variables_read more now H) (equation_read more now e)) k.cells
      ∙ ap (λ l. rule (codes "x") (cells_read types store) l (equation_read more now e)) k.still
      ∙ ap (rule (codes "x") (cells_read types store) (variables_read types store F)) (keeps_equation e d)
      ∙ rest

  pub all_rest_on : (es : List Numbered) → All (IsTypedEquation types store) es → All (IsAtRest types store F) es → All (IsAtRest more now H) es
  all_rest_on [] d rest = All-nil (IsAtRest more now H)
  all_rest_on (e ∷ es) d rest =
      All-cons (IsAtRest more now H) e es
      (rest_on e (All-head (IsTypedEquation types store) e es d) (All-head (IsAtRest types store F) e es rest))
      (all_rest_on es (All-tail (IsTypedEquation types store) e es d) (All-tail (IsAtRest types store F) e es rest))

module _ (types more : Table) (store now : Contents) (g : Grows types store more now) where
  pub typed_equation : (e : Numbered) → IsTypedEquation types store e → IsTypedEquation more now e
  typed_equation e d = (d.0, d.1, grown_term types more store now g d.0 e.left d.1 d.2, grown_term types more store now g d.0 e.right d.1 d.3)

  pub typed_equations : (es : List Numbered) → All (IsTypedEquation types store) es → All (IsTypedEquation more now) es
  typed_equations es all = All-weaker (IsTypedEquation types store) (IsTypedEquation more now) typed_equation es all

-- equations read as their images
module _ (types more : Table) (store now : Contents) (F H : List CellId) (c : Change (List ℕ)) (b : Changed types store F c more now H) where
  changed_equation : (e : Numbered) → IsTypedEquation types store e → equation_read more now e ≡ image_of c.pairs (equation_read types store e)
  changed_equation e d =
      ap (λ l. record { place = e.place; left = l; right = reading more now e.right }) (b.reads d.0 e.left d.1 d.2)
      ∙ ap (λ r. record { place = e.place; left = image same_number c.pairs (reading types store e.left); right = r }) (b.reads d.0 e.right d.1 d.3)

  pub changed_equations : (es : List Numbered) → All (IsTypedEquation types store) es → map (equation_read more now) es ≡ map (image_of c.pairs) (map (equation_read types store) es)
  changed_equations [] all = refl
  changed_equations (e ∷ es) all =
      ap (λ f. f ∷ map (equation_read more now) es) (changed_equation e (All-head (IsTypedEquation types store) e es all))
      ∙ ap (λ l. image_of c.pairs (equation_read types store e) ∷ l) (changed_equations es (All-tail (IsTypedEquation types store) e es all))

-- pairs that were put in, and then nothing or more
composition_none : (s : Substitution ℕ (List ℕ)) → composition same_number s [] ≡ s
composition_none [] = refl
composition_none (p ∷ s) = ap (λ t. (p.0, t) ∷ composition same_number s []) (image_none p.1) ∙ ap (λ l. p ∷ l) (composition_none s)

module _ (T types more : Table) (S store now : Contents) (F G H : List CellId) (s : Substitution ℕ (List ℕ)) (r : Reaches T S F types store G s) where
  pub reaches_then : (c : Change (List ℕ)) → Changed types store G c more now H → Reaches T S F more now H (composition same_number s c.pairs)
  reaches_then c b =
      let pairs = composition same_number s c.pairs in
      let at : Change (List ℕ) = record { cells = cells_read types store; flexible = variables_read types store G; pairs = s } in
      subst (λ d. Changed T S F d more now H)
      (ap (λ l. record { cells = l; flexible = c.flexible; pairs = pairs }) (sym b.cells)
      ∙ ap (λ l. record { cells = cells_read more now; flexible = l; pairs = pairs }) (sym b.still))
      (then_changed T types more S store now F G H at c r b)

  pub reaches_on : Keeps types store G more now H → Reaches T S F more now H s
  reaches_on k = subst (Reaches T S F more now H) (composition_none s) (reaches_then (still types store G) k)
