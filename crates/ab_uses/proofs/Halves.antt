-- A use that is half made.
use Rattle.std.proofs.Common.{◌≡◌, ℕ, suc, ◌+◌, ◌<◌, List, [], ◌∷◌, ◌++◌, map, length, drop, get_or, Bool, true, false, ◌&&◌, refl, sym, ◌∙◌, ap, subst, arith, drop-cons, length-append, append-nil, ◌≤◌}
use Rattle.std.specs.List.{All}
use Rattle.std.proofs.lemmas.List.{append_assoc, length-map, drop_all}
use Rattle.std.proofs.lemmas.List.Elements.{All-nil, All-drop, All-get_or}
use Rattle.ab_term.specs.Types.{Ty, prop}
use Rattle.ab_norm.specs.ab_types.specs.Entries.{Table, signature}
use Rattle.ab_norm.specs.ab_store.specs.declared.node.TermId.{TermId}
use Rattle.ab_norm.specs.ab_store.specs.Trees.{Contents, tree_of}
use Rattle.ab_norm.specs.ab_store.specs.Growth.{IsExtendedBy}
use Rattle.ab_norm.specs.ab_store.specs.Naming.{IsTypedBy, IsTerm}
use Rattle.ab_norm.specs.ab_store.proofs.Growing.{extended_on, extended_itself}
use Rattle.ab_norm.specs.declared.nominal.Nominal.{Nominal}
use Rattle.ab_norm.specs.Nominals.{HoldsNominal}
use Rattle.ab_unifiers.specs.Replacements.{Cell}
use Rattle.ab_unify.specs.Problem.{cell_read, cells_read, variables_read}
use Rattle.ab_unify.specs.StoreChanges.{Grows}
use Rattle.ab_unify.proofs.Growth.{grows_on, grows_none}
use Rattle.ab_alternatives.specs.ab_instances.specs.ListReadings.{names_read, trees_at}
use Rattle.ab_alternatives.specs.ab_instances.specs.RaisedCells.{ids_from}
use Rattle.ab_alternatives.specs.ab_instances.proofs.Made.{names_held, variables_at}
use Rattle.ab_theory.specs.Uses.{Use, used, types_chosen, nothing_taken}
use Rattle.ab_consequences.specs.UseStages.{stages_of}
use Rattle.ab_uses.specs.UseCells.{part_read, parts_read, HoldsPart, HasParts, names_left, and_then, StageIsTyped, stages_read, IsUnderWay, GoesOn, GoesOnBy, IsMade}
use Rattle.ab_uses.specs.declared.made_uses.Made.{Made}
use Rattle.ab_uses.specs.declared.part.Part.{Part}
use Rattle.ab_uses.proofs.Parted.{parts_held}
use Rattle.ab_uses.proofs.Steps.{ids_append, and_assoc}
use Rattle.ab_uses.proofs.Rest.{chosen_apart, names_are_held, fit_is, front_is, rest_used, rest_stages, passed_first}

pub half_way : (T : Table) (S : Contents) (before : List (Cell (List ℕ))) (u : Use) (m : Made) → IsMade T S before u m → IsUnderWay T S m
half_way T S before u m a = record { formulas = a.formulas; formula = a.formula; stages = a.stages }

-- one part more is made
pub made_on : (T U : Table) (S V : Contents) (before : List (Cell (List ℕ))) (u v : Use) (m n : Made) → IsMade T S before u m → GoesOn T S m v U V n → IsMade U V before (and_then u v) n
made_on T U S V before u v m n a b = record {
  outside = ap (λ k. k && v.outside) a.outside ∙ b.outside;
  all = all_are;
  cells = cells_are;
  variables = ap (variables_read U V) cells_are ∙ variables_at U V (length before) before (u.variables ++ v.variables) (u.variables ++ v.variables) refl refl all_are;
  antecedents = b.antecedents ∙ ap (λ l. l ++ v.antecedents) a.antecedents;
  formulas = b.under_way.formulas;
  result = b.result;
  formula = b.under_way.formula;
  stages = b.under_way.stages;
}
  where
    all_are : cells_read U V ≡ before ++ (u.variables ++ v.variables)
    all_are = b.all ∙ ap (λ l. l ++ v.variables) a.all ∙ append_assoc before u.variables v.variables

    count : length S.cells ≡ length before + length u.variables
    count = sym (length-map S.cells (cell_read T)) ∙ ap length a.all ∙ length-append before u.variables

    cells_are : n.cells.items ≡ ids_from (length before) (u.variables ++ v.variables)
    cells_are =
        b.cells
        ∙ ap (λ l. l ++ ids_from (length S.cells) v.variables) a.cells
        ∙ ap (λ k. ids_from (length before) u.variables ++ ids_from k v.variables) count
        ∙ ids_append (length before) u.variables v.variables

-- THE USE IS HALF MADE, up to the part of this number
pub record HalfMade (T0 : Table) (S0 : Contents) (held : List Nominal) (chosen : List Nominal) (parts : List Part) (formula : TermId) (T : Table) (S : Contents) (i : ℕ) (left : List Nominal) (m : Made) : Type 0 where
  pub grows : Grows T0 S0 T S
  pub before : IsExtendedBy S0 S
  pub done : Use
  pub made : IsMade T S (cells_read T0 S0) done m
  pub whole : used (names_read T0 held) (length (cells_read T0 S0)) (parts_read T0 S0 parts) (names_read T0 chosen) (tree_of T0 S0 formula)
      ≡ and_then done (used (names_read T held) (length S.cells) (parts_read T S (drop i parts)) (names_read T left) (tree_of T S m.result))
  pub staged : stages_of (names_read T0 held) (length (cells_read T0 S0)) (parts_read T0 S0 parts) (names_read T0 chosen)
      ≡ stages_read T S m.stages.items ++ stages_of (names_read T held) (length S.cells) (parts_read T S (drop i parts)) (names_read T left)
  pub held_left : All (HoldsNominal T) left
  pub front : HasParts (signature T) (parts_read T S (drop i parts)) (tree_of T S m.result)
  pub fit : map (λ a. a.type) (names_read T left) ≡ types_chosen (parts_read T S (drop i parts))

module _ (T0 T U : Table) (S0 S V : Contents) (held chosen : List Nominal) (parts : List Part) (formula : TermId) (i : ℕ) (p : Part) (within : i < length parts) (p_is : p ≡ get_or parts i p) (left : List Nominal) (m : Made)
    (held_all : All (HoldsNominal T0) held) (parts_all : All (HoldsPart T0 S0) parts) (h : HalfMade T0 S0 held chosen parts formula T S i left m) where
  abbrev rest : List Part
  rest = drop (i + 1) parts

  abbrev first : Use
  first = used (names_read T held) (length S.cells) (part_read T S p ∷ []) (names_read T left) (tree_of T S m.result)

  parts_are : drop i parts ≡ p ∷ rest
  parts_are = drop-cons parts i p within ∙ ap (λ q. q ∷ drop (suc i) parts) (sym p_is) ∙ ap (λ n. p ∷ drop n parts) (let e : suc i ≡ i + 1 = omega arith in e)

  pub first_held : HoldsPart T S p
  first_held = subst (HoldsPart T S) (sym p_is) (All-get_or (HoldsPart T S) parts i p within (parts_held T0 T S0 S h.grows parts parts_all))

  pub first_fit : map (λ a. a.type) (names_read T left) ≡ types_chosen (parts_read T S (p ∷ rest))
  first_fit = h.fit ∙ ap (λ ps. types_chosen (parts_read T S ps)) parts_are

  pub first_only : (more : List Ty) × (map (λ a. a.type) (names_read T left) ≡ types_chosen (part_read T S p ∷ []) ++ more)
  first_only = (types_chosen (parts_read T S rest), first_fit ∙ chosen_apart (part_read T S p) (parts_read T S rest))

  pub first_front : HasParts (signature T) (parts_read T S (p ∷ rest)) (tree_of T S m.result)
  first_front = subst (λ ps. HasParts (signature T) (parts_read T S ps) (tree_of T S m.result)) parts_are h.front

  whole_is : used (names_read T0 held) (length (cells_read T0 S0)) (parts_read T0 S0 parts) (names_read T0 chosen) (tree_of T0 S0 formula)
      ≡ and_then h.done (used (names_read T held) (length S.cells) (parts_read T S (p ∷ rest)) (names_read T left) (tree_of T S m.result))
  whole_is = h.whole ∙ ap (λ ps. and_then h.done (used (names_read T held) (length S.cells) (parts_read T S ps) (names_read T left) (tree_of T S m.result))) parts_are

  pub passed : first.outside ≡ false → (used (names_read T0 held) (length (cells_read T0 S0)) (parts_read T0 S0 parts) (names_read T0 chosen) (tree_of T0 S0 formula)).outside ≡ false
  passed e =
      ap (λ (u : Use). u.outside) whole_is
      ∙ ap (λ b. b && (used (names_read T held) (length S.cells) (parts_read T S (p ∷ rest)) (names_read T left) (tree_of T S m.result)).outside) h.made.outside
      ∙ passed_first (names_read T held) (length S.cells) (part_read T S p) (parts_read T S rest) (names_read T left) (tree_of T S m.result) first_fit e

  module _ (g : Grows T S U V) (e : IsExtendedBy S V) (k : Made) (next : List Nominal) (next_is : next ≡ names_left (part_read T S p) left) (a : GoesOn T S m first U V k)
      (b : GoesOnBy T S m (stages_of (names_read T held) (length S.cells) (part_read T S p ∷ []) (names_read T left)) U V k) where
    held_now : All (HoldsNominal T) held
    held_now = names_held T0 T h.grows.table held held_all

    rest_all : All (HoldsPart T S) rest
    rest_all = parts_held T0 T S0 S h.grows rest (All-drop (HoldsPart T0 S0) (i + 1) parts parts_all)

    pub half_step : HalfMade T0 S0 held chosen parts formula U V (i + 1) next k
    half_step = record {
      grows = grows_on T0 T U S0 S V h.grows g;
      before = extended_on S0 S V h.before e;
      done = and_then h.done first;
      made = made_on T U S V (cells_read T0 S0) h.done first m k h.made a;
      whole = whole_is
          ∙ ap (and_then h.done) (rest_used T U S V g m k held left next held_now h.held_left p rest rest_all first_fit next_is a)
          ∙ and_assoc h.done first _;
      staged = h.staged
          ∙ ap (λ ps. stages_read T S m.stages.items ++ stages_of (names_read T held) (length S.cells) (parts_read T S ps) (names_read T left)) parts_are
          ∙ ap (λ l. stages_read T S m.stages.items ++ l) (rest_stages T U S V g m k held left next held_now h.held_left p rest rest_all first_fit next_is a)
          ∙ sym (append_assoc (stages_read T S m.stages.items) (stages_of (names_read T held) (length S.cells) (part_read T S p ∷ []) (names_read T left)) _)
          ∙ ap (λ l. l ++ stages_of (names_read U held) (length V.cells) (parts_read U V rest) (names_read U next)) (sym b);
      held_left = names_are_held T U S V g m k held left next held_now h.held_left p rest rest_all first_fit next_is;
      front = front_is T U S V g m k held left next held_now h.held_left p rest rest_all first_fit next_is a first_front;
      fit = fit_is T U S V g m k held left next held_now h.held_left p rest rest_all first_fit next_is;
    }

and_nothing : (u : Use) → and_then u (nothing_taken u.result) ≡ u
and_nothing u =
    ap (λ l. record { variables = l; antecedents = u.antecedents ++ []; result = u.result; outside = u.outside && true }) (append-nil u.variables)
    ∙ ap (λ l. record { variables = u.variables; antecedents = l; result = u.result; outside = u.outside && true }) (append-nil u.antecedents)
    ∙ ap (λ b. record { variables = u.variables; antecedents = u.antecedents; result = u.result; outside = b }) (and_yes u.outside)
  where
    and_yes : (b : Bool) → (b && true) ≡ b
    and_yes true = refl
    and_yes false = refl

-- where no part is left it is made
pub half_done : (T0 T : Table) (S0 S : Contents) (held chosen : List Nominal) (parts : List Part) (formula : TermId) (i : ℕ) (left : List Nominal) (m : Made) → length parts ≤ i → HalfMade T0 S0 held chosen parts formula T S i left m
    → IsMade T S (cells_read T0 S0) (used (names_read T0 held) (length (cells_read T0 S0)) (parts_read T0 S0 parts) (names_read T0 chosen) (tree_of T0 S0 formula)) m
half_done T0 T S0 S held chosen parts formula i left m all h =
    subst (λ u. IsMade T S (cells_read T0 S0) u m)
    (sym (h.whole
    ∙ ap (λ ps. and_then h.done (used (names_read T held) (length S.cells) (parts_read T S ps) (names_read T left) (tree_of T S m.result))) (drop_all i parts all)
    ∙ ap (λ R. and_then h.done (nothing_taken R)) h.made.result
    ∙ and_nothing h.done)) h.made

-- and its stages are those of the parts
pub half_staged : (T0 T : Table) (S0 S : Contents) (held chosen : List Nominal) (parts : List Part) (formula : TermId) (i : ℕ) (left : List Nominal) (m : Made) → length parts ≤ i → HalfMade T0 S0 held chosen parts formula T S i left m
    → stages_read T S m.stages.items ≡ stages_of (names_read T0 held) (length (cells_read T0 S0)) (parts_read T0 S0 parts) (names_read T0 chosen)
half_staged T0 T S0 S held chosen parts formula i left m all h =
    sym (h.staged
    ∙ ap (λ ps. stages_read T S m.stages.items ++ stages_of (names_read T held) (length S.cells) (parts_read T S ps) (names_read T left)) (drop_all i parts all)
    ∙ append-nil (stages_read T S m.stages.items))

-- at first nothing is made
pub half_none : (T : Table) (S : Contents) → IsTypedBy T S → (held chosen : List Nominal) (parts : List Part) (formula : TermId) (m : Made) → m.cells.items ≡ [] → m.antecedents.items ≡ [] → m.stages.items ≡ [] → m.result ≡ formula
    → All (HoldsNominal T) chosen → IsTerm T S [] formula prop → HasParts (signature T) (parts_read T S parts) (tree_of T S formula) → map (λ a. a.type) (names_read T chosen) ≡ types_chosen (parts_read T S parts)
    → HalfMade T S held chosen parts formula T S 0 chosen m
half_none T S typed held chosen parts formula m cells ants stages result chosen_all is front fit = record {
  grows = grows_none T S typed;
  before = extended_itself S;
  done = nothing_taken (tree_of T S formula);
  made = record {
    outside = refl;
    all = sym (append-nil (cells_read T S));
    cells = cells;
    variables = ap (variables_read T S) cells;
    antecedents = ap (trees_at T S) ants;
    formulas = subst (All (λ t. IsTerm T S [] t prop)) (sym ants) (All-nil (λ t. IsTerm T S [] t prop));
    result = ap (tree_of T S) result;
    formula = subst (λ t. IsTerm T S [] t prop) (sym result) is;
    stages = subst (All (StageIsTyped T S)) (sym stages) (All-nil (StageIsTyped T S));
  };
  whole = ap (λ n. used (names_read T held) n (parts_read T S parts) (names_read T chosen) (tree_of T S formula)) (length-map S.cells (cell_read T))
      ∙ ap (λ t. used (names_read T held) (length S.cells) (parts_read T S parts) (names_read T chosen) (tree_of T S t)) (sym result);
  staged = ap (λ n. stages_of (names_read T held) n (parts_read T S parts) (names_read T chosen)) (length-map S.cells (cell_read T))
      ∙ ap (λ l. stages_read T S l ++ stages_of (names_read T held) (length S.cells) (parts_read T S parts) (names_read T chosen)) (sym stages);
  held_left = chosen_all;
  front = subst (λ t. HasParts (signature T) (parts_read T S parts) (tree_of T S t)) (sym result) front;
  fit = fit;
}
