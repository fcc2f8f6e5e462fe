-- The ways from a goal, with other numbers for variables: the same ways, with these numbers.
use Rattle.std.specs.Prelude.{Contains, IfSome}
use Rattle.std.specs.List.{All}
use Rattle.std.specs.Option.{option_map}
use Rattle.std.proofs.Common.{◌≡◌, ℕ, zero, suc, ◌+◌, List, [], ◌∷◌, ◌++◌, map, length, codes, Bool, true, false, cond, Option, Some, None, refl, sym, ◌∙◌, ap, subst, arith, append_assoc, append-nil}
use Rattle.std.proofs.lemmas.List.Elements.{All-nil, All-cons, All-head, All-tail, All-contains}
use Rattle.ab_term.specs.Types.{Ty, kind, arrow}
use Rattle.ab_term.specs.Terms as tree
use Rattle.ab_term.specs.Terms.{Nominal, constant, nominal, variable, lam, spine, Terms, no_terms, term, Read}
use Rattle.ab_term.specs.Expansion.{expansion_of, expansion}
use Rattle.ab_term.specs.Names.{support, support_of_all, moved_by, permute}
use Rattle.ab_term.specs.Substitution.{instance}
use Rattle.ab_term.specs.Abstraction.{over, name_terms, given_names}
use Rattle.ab_term.specs.Typing.{Signature}
use Rattle.ab_term.specs.Translation.{translate_variable}
use Rattle.ab_term.specs.Sameness.{same_number}
use Rattle.ab_term.proofs.Lists.{Contains-here, Contains-there}
use Rattle.ab_term.proofs.Translations.{map-append, translate-rename, translate-instance, translate-expansion, translate-expansion_of, support-translate}
use Rattle.ab_unifiers.specs.Replacements.{Cell}
use Rattle.ab_unifiers.specs.Clauses.{Clause, Each, IsClause, numbered, name_term}
use Rattle.ab_unifiers.specs.Choices.{in_order, outside, new_constant, placed, for_each}
use Rattle.ab_unifiers.specs.Alternatives.{alternative, on_right}
use Rattle.ab_unifiers.specs.Renumbering.{renumbered_equation, renumbered_pairs, IsRenumbering}
use Rattle.ab_unifiers.proofs.Changes.{agreeing, extended}
use Rattle.ab_unifiers.proofs.Alternatives.{alternative_moved}
use Rattle.ab_formulas.specs.Declarations.{Declarations, signature_in, IsDefining, HaveDefinitions}
use Rattle.ab_formulas.specs.Programs.{program_in, HavePrograms}
use Rattle.ab_formulas.specs.Forms.{Form, truth, falsity, both, either, implies, equal, for_all, exists, nabla, marked, other, form_of}
use Rattle.ab_formulas.specs.Marks.{erased}
use Rattle.ab_formulas.specs.BodyMarks.{mark_above, marked_in}
use Rattle.ab_theory.specs.Atoms.{Defined, Choice, defined_atom, choices_of}
use Rattle.ab_theory.specs.Judgements.{Judgement, as_judgement}
use Rattle.ab_theory.specs.Opening.{kind_of}
use Rattle.ab_theory.specs.SpecRules.{SpecRule, by_clause, by_list, by_opening, by_part, rules_of}
use Rattle.ab_effects.specs.Judgements.{renumbered_judgement, renumbered_rule, IsClosedRule}
use Rattle.ab_effects.proofs.Carrying.{GoOn, at_once}
use Rattle.ab_effects.proofs.Marked.{marked_moved}
use Rattle.ab_effects.proofs.Following.{IsGood, choices_good, moved_atom, choices_moved}
use Rattle.ab_effects.proofs.MovedRules.{demand_moved}
use Rattle.ab_effects.proofs.SameRules.{closed_rules}
use Rattle.ab_search_trees.specs.Goals.{Goal, Now, asking, assuming}
use Rattle.ab_search_trees.specs.Maps.{maps}
use Rattle.ab_search_trees.specs.Judgements.{opened_once, is_blind, opens_by_layers, known, search_rules}
use Rattle.ab_search_trees.specs.Ways.{Way, hint_of, with_constants, unfolds, demanded, is_by_list, in_turn, leading_to, equating, new_variable, new_term, by_truth, by_hypothesis, by_layer, by_form, by_choice, by_definition, by_rule, by_judgement, ways}
use Rattle.ab_search_trees.proofs.Smaller.{form_block}
use Rattle.ab_search_trees.proofs.MovedForms.{T, Ts, form_renumbered, form_moved, erased_moved, atom_moved, judgement_moved, opened_moved, search_rules_moved, blind_same}

module _ (f : ℕ → ℕ) where
  abbrev pub V : tree.Variable ℕ → tree.Variable ℕ
  V = translate_variable f

  abbrev pub goal_renumbered : Goal → Goal
  goal_renumbered g = record g { hypotheses = map (T f) g.hypotheses; conclusion = T f g.conclusion }

  abbrev pub now_renumbered : List (Cell (List ℕ)) → Now → Now
  now_renumbered others now = record { cells = others; flexible = map V now.flexible; answer = renumbered_pairs f now.answer; held = now.held }

  -- new variables

  name_terms_same : (A : Ty) (ns : List Nominal) → Ts f (name_terms (codes "x") A (map nominal ns)) ≡ name_terms (codes "x") A (map nominal ns)
  name_terms_same A [] = refl
  name_terms_same (kind k) (a ∷ ns) = refl
  name_terms_same (arrow A B) (a ∷ ns) =
      ap (λ t. term t (Ts f (name_terms (codes "x") B (map nominal ns)))) (translate-expansion f (λ (x : List ℕ). x) (codes "x") A (nominal a))
      ∙ ap (term (expansion (codes "x") A (nominal a))) (name_terms_same B ns)

  given_names_moved : (z : tree.Variable ℕ) (ns : List Nominal) (A : Ty) → T f (given_names (codes "x") z ns A) ≡ given_names (codes "x") (V z) ns A
  given_names_moved z ns A =
      translate-expansion_of f (λ (x : List ℕ). x) (codes "x") A (variable z) (name_terms (codes "x") z.type (map nominal ns))
      ∙ ap (expansion_of (codes "x") A (variable (V z))) (name_terms_same z.type ns)

  name_same : (a : Nominal) → T f (name_term (codes "x") a) ≡ name_term (codes "x") a
  name_same a = translate-expansion f (λ (x : List ℕ). x) (codes "x") a.type (nominal a)

  instance_moved : (F u v : Read) → T f u ≡ v → T f (instance F u) ≡ instance (T f F) v
  instance_moved F u v e = translate-instance f (λ (x : List ℕ). x) F u ∙ ap (instance (T f F)) e

  support_same : (t : Read) → in_order (support (T f t)) ≡ in_order (support t)
  support_same t = ap in_order (support-translate f (λ (x : List ℕ). x) t)

  hint_same : (F : Read) → hint_of (T f F) ≡ hint_of F
  hint_same (lam A x t) = refl
  hint_same (spine h ts) = refl

  suc_on : (n m : ℕ) → GoOn f n m → GoOn f (suc n) (suc m)
  suc_on n m on k =
      let before : suc n + k ≡ n + (1 + k) = omega arith in
      let behind : m + (1 + k) ≡ suc m + k = omega arith in
      ap f before ∙ on (1 + k) ∙ behind

  pub numbered_on : (n m : ℕ) (cs : List (Cell (List ℕ))) → GoOn f n m → map V (numbered n cs) ≡ numbered m cs
  numbered_on n m [] on = refl
  numbered_on n m (c ∷ cs) on =
      ap (λ i. record { name = i; type = c.type } ∷ map V (numbered (suc n) cs)) (at_once f n m on)
      ∙ ap (λ l. record { name = m; type = c.type } ∷ l) (numbered_on (suc n) (suc m) cs (suc_on n m on))

  list_rule_same : (r : SpecRule) → is_by_list (renumbered_rule f r) ≡ is_by_list r
  list_rule_same (by_clause c) = refl
  list_rule_same by_list = refl
  list_rule_same by_opening = refl
  list_rule_same (by_part p) = refl

-- THE SECOND WAY IS THE FIRST, with other numbers: behind the variables that there were stand the same new ones
pub record MovesWay (f : ℕ → ℕ) (cells others : List (Cell (List ℕ))) (w v : Way) : Type 0 where
  pub new : List (Cell (List ℕ))
  pub cells_first : w.cells ≡ cells ++ new
  pub cells_second : v.cells ≡ others ++ new
  pub flexible : map (V f) w.flexible ≡ v.flexible
  pub equations : map (renumbered_equation f) w.equations ≡ v.equations
  pub serving : map (λ (p : Read × Read). (T f p.0, T f p.1)) w.serving ≡ v.serving
  pub taken : w.taken ≡ v.taken
  pub goals : map (goal_renumbered f) w.goals ≡ v.goals

module _ {X Y : Type 0} (R : X → Y → Type 0) where
  pub each_both : (xs : List X) (ys : List Y) (us : List X) (vs : List Y) → Each R xs ys → Each R us vs → Each R (xs ++ us) (ys ++ vs)
  each_both [] [] us vs a b = b
  each_both [] (y ∷ ys) us vs a b = absurd a
  each_both (x ∷ xs) [] us vs a b = absurd a
  each_both (x ∷ xs) (y ∷ ys) us vs a b = (a.0, each_both xs ys us vs a.1 b)

  each_if : (b : Bool) (xs : List X) (ys : List Y) → Each R xs ys → Each R (cond b xs []) (cond b ys [])
  each_if true xs ys a = a
  each_if false xs ys a = tt

  each_unless : (b : Bool) (xs : List X) (ys : List Y) → Each R xs ys → Each R (cond b [] xs) (cond b [] ys)
  each_unless true xs ys a = tt
  each_unless false xs ys a = a

each_by : {X Y Z : Type 0} (R : X → Y → Type 0) (p : Z → X) (q : Z → Y) (zs : List Z) → ((z : Z) → Contains zs z → R (p z) (q z)) → Each R (map p zs) (map q zs)
each_by R p q [] a = tt
each_by R p q (z ∷ zs) a = (a z (Contains-here z zs), each_by R p q zs (λ y m. a y (Contains-there z zs y m)))

each_by_two : {X Y Z W : Type 0} (R : X → Y → Type 0) (p : Z → X) (q : W → Y) (h : Z → W) (zs : List Z) → ((z : Z) → Contains zs z → R (p z) (q (h z))) → Each R (map p zs) (map q (map h zs))
each_by_two R p q h [] a = tt
each_by_two R p q h (z ∷ zs) a = (a z (Contains-here z zs), each_by_two R p q h zs (λ y m. a y (Contains-there z zs y m)))

each_gathered : {X Y Z W : Type 0} (R : X → Y → Type 0) (p : Z → List X) (q : W → List Y) (h : Z → W) (zs : List Z) → ((z : Z) → Each R (p z) (q (h z))) → Each R (for_each p zs) (for_each q (map h zs))
each_gathered R p q h [] a = tt
each_gathered R p q h (z ∷ zs) a = each_both R (p z) (q (h z)) (for_each p zs) (for_each q (map h zs)) (a z) (each_gathered R p q h zs a)

all_known : (P : SpecRule → Type 0) (b : Bool) (o : Option (List SpecRule)) → IfSome o (All P) → All P (cond b [] (known o))
all_known P true o a = All-nil P
all_known P false None a = All-nil P
all_known P false (Some rs) a = a

all_clauses : (sg : Signature) (cs : List (Clause (List ℕ))) → All (IsDefining sg) cs → All (IsClause sg) cs
all_clauses sg [] a = All-nil (IsClause sg)
all_clauses sg (c ∷ cs) a = All-cons (IsClause sg) c cs ((All-head (IsDefining sg) c cs a).clause) (all_clauses sg cs (All-tail (IsDefining sg) c cs a))

module _ (f : ℕ → ℕ) (D : Declarations) (defs : HaveDefinitions D) (program : HavePrograms D) (now : Now) (others : List (Cell (List ℕ))) (r : IsRenumbering f now.cells others) (g : Goal) where
  abbrev Also : Now
  Also = now_renumbered f others now

  abbrev Other : Goal
  Other = goal_renumbered f g

  abbrev Moves : Way → Way → Type 0
  Moves = MovesWay f now.cells others

  abbrev All_moved : List Way → List Way → Type 0
  All_moved = Each Moves

  agree : (i j : ℕ) → same_number (f i) (f j) ≡ same_number i j
  agree = agreeing f r.different

  -- no variable is brought
  leading_moves : (gs hs : List Goal) → map (goal_renumbered f) gs ≡ hs → Moves (leading_to D now g gs) (leading_to D Also Other hs)
  leading_moves gs hs e = record { new = []; cells_first = sym (append-nil now.cells); cells_second = sym (append-nil others); flexible = refl; equations = refl; serving = refl; taken = refl; goals = e }

  equating_moves : (t u v w : Read) (ps qs : List (Read × Read)) → T f t ≡ v → T f u ≡ w → map (λ (p : Read × Read). (T f p.0, T f p.1)) ps ≡ qs → Moves (equating D now g t u ps) (equating D Also Other v w qs)
  equating_moves t u v w ps qs left right serving = record {
    new = [];
    cells_first = sym (append-nil now.cells);
    cells_second = sym (append-nil others);
    flexible = refl;
    equations = λ i. record { place = 0; left = left i; right = right i } ∷ [];
    serving = serving;
    taken = refl;
    goals = refl;
  }

  truth_moves : (k : Form) → All_moved (by_truth D now g k) (by_truth D Also Other (form_renumbered f k))
  truth_moves truth = (leading_moves [] [] refl, tt)
  truth_moves _ = tt

  hypothesis_moves : (B : Read) → All_moved (by_hypothesis D now g B) (by_hypothesis D Also Other (T f B))
  hypothesis_moves B =
      let C = g.conclusion in
      subst
      (λ ns. All_moved (by_hypothesis D now g B) (map (λ ps. equating D Also Other (permute ps (erased (T f B))) (erased (T f C)) ((T f C, T f B) ∷ [])) (maps ns g.constants)))
      (sym (support_same f B))
      (each_by Moves (λ ps. equating D now g (permute ps (erased B)) (erased C) ((C, B) ∷ [])) (λ ps. equating D Also Other (permute ps (erased (T f B))) (erased (T f C)) ((T f C, T f B) ∷ []))
      (maps (in_order (support B)) g.constants)
      (λ ps m. equating_moves (permute ps (erased B)) (erased C) (permute ps (erased (T f B))) (erased (T f C)) ((C, B) ∷ []) ((T f C, T f B) ∷ [])
      (translate-rename f (λ (x : List ℕ). x) (moved_by ps) (erased B) ∙ ap (permute ps) (erased_moved f B)) (erased_moved f C) refl))

  layer_moves : (n : ℕ) (o : Option Read) → All_moved (by_layer D now g n o) (by_layer D Also Other n (option_map (T f) o))
  layer_moves zero o = tt
  layer_moves (suc n) None = tt
  layer_moves (suc n) (Some F) = (leading_moves (record (asking F g) { layers = n } ∷ []) (record (asking (T f F) Other) { layers = n } ∷ []) refl, tt)

  turn_moved : (b : Bool) (A B : Read) → map (goal_renumbered f) (in_turn b (asking A g) (asking B g)) ≡ in_turn b (asking (T f A) Other) (asking (T f B) Other)
  turn_moved true A B = refl
  turn_moved false A B = refl

  nabla_moves : (A : Ty) (F : Read) → All_moved (by_form D now g (nabla A F)) (by_form D Also Other (nabla A (T f F)))
  nabla_moves A F =
      let a = new_constant g.constants A in
      let body : T f (instance F (name_term (codes "x") a)) ≡ instance (T f F) (name_term (codes "x") a) = instance_moved f F (name_term (codes "x") a) (name_term (codes "x") a) (name_same f a) in (
        record {
          new = [];
          cells_first = sym (append-nil now.cells);
          cells_second = sym (append-nil others);
          flexible = refl;
          equations = refl;
          serving = refl;
          taken = refl;
          goals = λ i. record (asking (body i) Other) { constants = placed a g.constants } ∷ [];
        },
        tt,
      )

  -- the variable that is made is the next one
  next_moved : (A : Ty) (ns : List Nominal) → V f (new_variable D now g A ns) ≡ new_variable D Also Other A ns
  next_moved A ns = ap (λ i. record { name = i; type = over ns A }) (at_once f (length now.cells) (length others) r.behind)

  new_term_moved : (A : Ty) (ns : List Nominal) → T f (new_term D now g A ns) ≡ new_term D Also Other A ns
  new_term_moved A ns = given_names_moved f (new_variable D now g A ns) ns A ∙ ap (λ z. given_names (codes "x") z ns A) (next_moved A ns)

  exists_moves : (A : Ty) (F : Read) → All_moved (by_form D now g (exists A F)) (by_form D Also Other (exists A (T f F)))
  exists_moves A F =
      let ns = g.constants in
      let body : T f (instance F (new_term D now g A ns)) ≡ instance (T f F) (new_term D Also Other A ns) = instance_moved f F (new_term D now g A ns) (new_term D Also Other A ns) (new_term_moved A ns) in (
        record {
          new = record { hint = hint_of F; type = over ns A } ∷ [];
          cells_first = refl;
          cells_second = ap (λ x. others ++ record { hint = x; type = over ns A } ∷ []) (hint_same f F);
          flexible = map-append (V f) now.flexible (new_variable D now g A ns ∷ []) ∙ ap (λ z. map (V f) now.flexible ++ z ∷ []) (next_moved A ns);
          equations = refl;
          serving = refl;
          taken = refl;
          goals = λ i. record (asking (body i) Other) { untouched = false; member_first = g.member_first } ∷ [];
        },
        tt,
      )

  for_all_moves : (A : Ty) (F : Read) → All_moved (by_form D now g (for_all A F)) (by_form D Also Other (for_all A (T f F)))
  for_all_moves A F =
      let ns = in_order (support g.conclusion) in
      let ms = in_order (support (T f g.conclusion)) in
      let same : ms ≡ ns = support_same f g.conclusion in
      let hint = hint_same f F in
      let body : T f (instance F (new_term D now g A ns)) ≡ instance (T f F) (new_term D Also Other A ms) =
      instance_moved f F (new_term D now g A ns) (new_term D Also Other A ms) (new_term_moved A ns ∙ ap (new_term D Also Other A) (sym same)) in
      each_if Moves g.untouched _ _ (
        record {
          new = record { hint = hint_of F; type = over ns A } ∷ [];
          cells_first = refl;
          cells_second = λ i. others ++ record { hint = hint i; type = over (same i) A } ∷ [];
          flexible = refl;
          equations = refl;
          serving = refl;
          taken = refl;
          goals = λ i. asking (body i) Other ∷ [];
        },
        tt,
      )

  form_moves : (k : Form) → All_moved (by_form D now g k) (by_form D Also Other (form_renumbered f k))
  form_moves truth = tt
  form_moves falsity = tt
  form_moves (equal A t u) = (equating_moves t u (T f t) (T f u) [] [] refl refl refl, tt)
  form_moves (both A B) = (leading_moves (in_turn g.member_first (asking A g) (asking B g)) (in_turn g.member_first (asking (T f A) Other) (asking (T f B) Other)) (turn_moved g.member_first A B), tt)
  form_moves (either A B) = (leading_moves (asking A g ∷ []) (asking (T f A) Other ∷ []) refl, (leading_moves (asking B g ∷ []) (asking (T f B) Other ∷ []) refl, tt))
  form_moves (implies A B) =
      let hypotheses = map-append (T f) g.hypotheses (A ∷ []) in
      (leading_moves (asking B (assuming A g) ∷ []) (asking (T f B) (assuming (T f A) Other) ∷ []) (λ i. record (asking (T f B) Other) { hypotheses = hypotheses i } ∷ []), tt)
  form_moves (nabla A F) = nabla_moves A F
  form_moves (exists A F) = exists_moves A F
  form_moves (for_all A F) = for_all_moves A F
  form_moves (marked m A) = tt
  form_moves other = subst (λ o. All_moved (by_layer D now g g.layers (opened_once g.conclusion)) (by_layer D Also Other g.layers o)) (sym (opened_moved f g.conclusion)) (layer_moves g.layers (opened_once g.conclusion))

  choice_moves : (depth : ℕ) (d : Defined) (c : Choice) → IsGood c → Moves (by_choice D now g depth d c) (by_choice D Also Other depth (moved_atom f d) c)
  choice_moves depth d c good =
      let a = alternative (codes "x") (record { cells = now.cells; variables = []; constants = g.constants }) d.arguments c.clause c.names on_right in
      let m = alternative_moved f (codes "x") (record { cells = now.cells; variables = []; constants = g.constants }) others r d.arguments c.clause c.names good on_right in
      let ps = d.block.predicates in
      let sign = mark_above d.sign in
      let atom : in_order (support_of_all (Ts f d.arguments)) ≡ in_order (support_of_all d.arguments) = ap in_order (support-translate f (λ (x : List ℕ). x) (spine (constant []) d.arguments)) in
      let taken : a.fresh ≡ outside c.names (in_order (support_of_all (Ts f d.arguments))) = ap (outside c.names) (sym atom) in
      let body = marked_moved f ps sign a.body ∙ ap (marked_in ps sign) m.body in
      record {
        new = m.new;
        cells_first = m.cells_first;
        cells_second = m.cells_second;
        flexible = map-append (V f) now.flexible a.flexible ∙ ap (λ l. map (V f) now.flexible ++ l) m.flexible;
        equations = m.equations;
        serving = refl;
        taken = taken;
        goals = λ i. record {
          hypotheses = map (T f) g.hypotheses;
          conclusion = body i;
          depth = depth;
          constants = with_constants (taken i) g.constants;
          untouched = false;
          layers = g.layers;
          member_first = false;
        } ∷ [];
      }

  definition_moves : (n : ℕ) (o : Option Defined) → defined_atom D g.conclusion ≡ o → All_moved (by_definition D now g n o) (by_definition D Also Other n (option_map (moved_atom f) o))
  definition_moves zero o e = tt
  definition_moves (suc n) None e = tt
  definition_moves (suc n) (Some d) e =
      let b = form_block D (form_of g.conclusion) g.conclusion d e in
      let good = choices_good (signature_in D) g.constants d (all_clauses (signature_in D) d.block.clauses (defs b.0 d.block b.1)) in
      each_if Moves (unfolds d.sign) _ _
      (subst (λ cs. All_moved (map (by_choice D now g n d) (choices_of g.constants d)) (map (by_choice D Also Other n (moved_atom f d)) cs)) (sym (choices_moved f g.constants d))
      (each_by Moves (by_choice D now g n d) (by_choice D Also Other n (moved_atom f d)) (choices_of g.constants d) (λ c m. choice_moves n d c (All-contains IsGood (choices_of g.constants d) c good m))))

  rule_moves : (depth : ℕ) (j : Judgement) (s : SpecRule) → IsClosedRule s → Moves (by_rule D now g depth j s) (by_rule D Also Other depth (renumbered_judgement f j) (renumbered_rule f s))
  rule_moves depth j s closed =
      let a = demanded (length now.cells) j s in
      let b = demanded (length others) (renumbered_judgement f j) (renumbered_rule f s) in
      let m = demand_moved f agree (length now.cells) (length others) r.behind (mark_above j.sign) j s closed in
      let further = extended f now.cells others a.passing r in
      let list = list_rule_same f s in
      record {
        new = a.passing ++ a.own;
        cells_first = append_assoc now.cells a.passing a.own;
        cells_second = ap (λ l. (others ++ l) ++ b.own) m.passing ∙ ap (λ l. (others ++ a.passing) ++ l) m.own ∙ append_assoc others a.passing a.own;
        flexible =
            map-append (V f) now.flexible (numbered (length (now.cells ++ a.passing)) a.own)
            ∙ ap (λ l. map (V f) now.flexible ++ l) (numbered_on f (length (now.cells ++ a.passing)) (length (others ++ a.passing)) a.own further.behind)
            ∙ ap (λ l. map (V f) now.flexible ++ numbered (length (others ++ l)) a.own) (sym m.passing)
            ∙ ap (λ l. map (V f) now.flexible ++ numbered (length (others ++ b.passing)) l) (sym m.own);
        equations = m.equations;
        serving = refl;
        taken = refl;
        goals = λ i. record (asking (m.body i) Other) { depth = depth; untouched = false; member_first = sym list i } ∷ [];
      }

  judgement_moves : (n : ℕ) (o : Option Judgement) → All_moved (by_judgement D now g n o) (by_judgement D Also Other n (option_map (renumbered_judgement f) o))
  judgement_moves zero o = tt
  judgement_moves (suc n) None = tt
  judgement_moves (suc n) (Some j) =
      let closed = all_known IsClosedRule (opens_by_layers j.focus (kind_of j.goal)) (rules_of (program_in D) j) (closed_rules (signature_in D) (program_in D) program j) in
      each_if Moves (unfolds j.sign) _ _
      (subst (λ ss. All_moved (map (by_rule D now g n j) (search_rules D j)) (map (by_rule D Also Other n (renumbered_judgement f j)) ss)) (sym (search_rules_moved f D j))
      (each_by_two Moves (by_rule D now g n j) (by_rule D Also Other n (renumbered_judgement f j)) (renumbered_rule f) (search_rules D j) (λ s m. rule_moves n j s (All-contains IsClosedRule (search_rules D j) s closed m))))

  -- THE WAYS ARE THE SAME
  pub ways_move : All_moved (ways D now g) (ways D Also Other)
  ways_move =
      let C = g.conclusion in
      let K = form_of C in
      let truths = subst (λ k. All_moved (by_truth D now g K) (by_truth D Also Other k)) (sym (form_moved f C)) (truth_moves K) in
      let given = each_gathered Moves (by_hypothesis D now g) (by_hypothesis D Also Other) (T f) g.hypotheses hypothesis_moves in
      let forms = subst (λ k. All_moved (by_form D now g K) (by_form D Also Other k)) (sym (form_moved f C)) (form_moves K) in
      let definitions = subst (λ o. All_moved (by_definition D now g g.depth (defined_atom D C)) (by_definition D Also Other g.depth o)) (sym (atom_moved f D C)) (definition_moves g.depth (defined_atom D C) refl) in
      let judgements = subst (λ o. All_moved (by_judgement D now g g.depth (as_judgement C)) (by_judgement D Also Other g.depth o)) (sym (judgement_moved f C)) (judgement_moves g.depth (as_judgement C)) in
      let front = each_both Moves (by_truth D now g K) (by_truth D Also Other (form_of (T f C))) (for_each (by_hypothesis D now g) g.hypotheses) (for_each (by_hypothesis D Also Other) (map (T f) g.hypotheses)) truths given in
      let rest = each_both Moves (by_form D now g K ++ by_definition D now g g.depth (defined_atom D C)) (by_form D Also Other (form_of (T f C)) ++ by_definition D Also Other g.depth (defined_atom D (T f C))) (by_judgement D now g g.depth (as_judgement C)) (by_judgement D Also Other g.depth (as_judgement (T f C)))
      (each_both Moves (by_form D now g K) (by_form D Also Other (form_of (T f C))) (by_definition D now g g.depth (defined_atom D C)) (by_definition D Also Other g.depth (defined_atom D (T f C))) forms definitions) judgements in
      each_both Moves (by_truth D now g K ++ for_each (by_hypothesis D now g) g.hypotheses) (by_truth D Also Other (form_of (T f C)) ++ for_each (by_hypothesis D Also Other) (map (T f) g.hypotheses)) _ _ front
      (subst (λ b. All_moved (cond (is_blind now.flexible C) [] ((by_form D now g K ++ by_definition D now g g.depth (defined_atom D C)) ++ by_judgement D now g g.depth (as_judgement C))) (cond b [] ((by_form D Also Other (form_of (T f C)) ++ by_definition D Also Other g.depth (defined_atom D (T f C))) ++ by_judgement D Also Other g.depth (as_judgement (T f C))))) (sym (blind_same f agree now.flexible C))
      (each_unless Moves (is_blind now.flexible C) _ _ rest))
