-- What one step of the kernel does to a goal with hypotheses of a command's own.
use Rattle.std.specs.Prelude.{All}
use Rattle.std.proofs.Common.{◌≡◌, ◌≢◌, ℕ, ◌<◌, List, [], ◌∷◌, ◌++◌, Some, None, length, refl, sym, ◌∙◌, ap, subst, append_assoc}
use Rattle.ab_term.specs.Types.{Ty}
use Rattle.ab_term.specs.Substitution.{instance}
use Rattle.ab_term.specs.Terms.{Read}
use Rattle.ab_formulas.specs.Declarations.{Declarations}
use Rattle.ab_formulas.specs.Forms.{truth, both, exists, nabla, form_of, as_exists, as_nabla, exists_in, nabla_in}
use Rattle.ab_formulas.specs.NewNames.{Label, auto, given, Names, NoName, IsNamedFor, IsLeast}
use Rattle.ab_formulas.specs.Sequents.{Hypothesis, Variable, Sequent, formula_of, formulas, assuming, without, over}
use Rattle.ab_logic.specs.declared.world.World.{World}
use Rattle.ab_theory.specs.Steps.{Step, weaken, exists_left, nabla_left}
use Rattle.ab_theory.specs.Rules.{NamedRule, IsSupport, MayName, raised, applied, hint_of, name_term}
use Rattle.ab_theory.proofs.NewNumbers.{new_number}
use Rattle.ab_steps.specs.ab_kernel.specs.Layout.{Held, goals_of}
use Rattle.ab_effects.specs.Openings.{IsWhole, Taken, Opened, Nameless, nothing, parts, variable, constant, hypothesis, unnamed}
use Rattle.ab_steps.specs.Progress.{IsAt}
use Rattle.ab_steps.proofs.Connectives.{connectives, same_connectives, rigid_applied, rigid_name, fewer_exists, fewer_nabla}
use Rattle.ab_hypothesis.specs.OwnNames.{AreOwn, HasAll, besides}
use Rattle.ab_hypothesis.specs.HypothesisProgress.{OpensTo}
use Rattle.ab_hypothesis.proofs.Hypotheses.{entry, named_gone, named_still_none, named_past, named_last, others_last, turned}
use Rattle.ab_hypothesis.proofs.Owned.{dressed, besides_is, besides_over, besides_assuming, without_past, label_apart, names_beside, nameless_beside, named_hypotheses, has_all_more, has_all_same, same_naming}
use Rattle.ab_hypothesis.proofs.Standing.{LabelsDiffer, least_taken}

-- the step was taken at the goal
abbrev pub Went : Declarations → Step → Sequent → World → Held → List Sequent → List Sequent → Type 0
Went D step k v q before behind = (ps : List Sequent) × NamedRule D step k ps × (goals_of v q ≡ before ++ ps ++ behind)

pub one_premise : (v : World) (q : Held) (place : ℕ) (before behind ps : List Sequent) (t : Sequent) → length before ≡ place
    → goals_of v q ≡ before ++ ps ++ behind → ps ≡ t ∷ [] → IsAt v q place before t behind
one_premise v q place before behind ps t counted goals e =
    record { goals = goals ∙ ap (λ qs. before ++ qs ++ behind) e ∙ append_assoc before (t ∷ []) behind; counted = counted }

pub weakened : (D : Declarations) (k : Sequent) (H : List ℕ) (v : World) (q : Held) (place : ℕ) (before behind : List Sequent) → length before ≡ place
    → Went D (weaken H) k v q before behind → IsAt v q place before (without H k) behind
weakened D k H v q place before behind counted w = one_premise v q place before behind w.0 (without H k) counted w.2 w.1.2.2

found_once : (k : Sequent) (x : List ℕ) (F G : Read) → formula_of k x ≡ Some F → formula_of k x ≡ Some G → G ≡ F
found_once k x F G a b = let both : Some G ≡ Some F = sym b ∙ a in cc

variables_beside : (hs : List Hypothesis) (k : Sequent) → (besides hs k).variables ≡ k.variables
variables_beside hs k = ap (λ (s : Sequent). s.variables) (besides_is hs k)

-- the hypothesis that was put last is removed
pub without_last : (k : Sequent) (x : List ℕ) (F : Read) → formula_of k x ≡ None → without x (assuming x F k) ≡ k
without_last k x F none = ap (λ hs. dressed hs k) (others_last k.hypotheses x F none)

module _ (D : Declarations) (h : Hypothesis) (hs : List Hypothesis) (l : Label) (k : Sequent) (all : HasAll (h ∷ hs) k) (v : World) (q : Held) (place : ℕ) (before behind : List Sequent) where
  pub opens_nothing : form_of h.formula ≡ truth → IsAt v q place before (without h.name k) behind → OpensTo D (h ∷ hs) l k hs l v q place before behind
  opens_nothing is at = record {
    goal = without h.name k;
    at = at;
    all = all.1;
    continues = record { opened = λ n u o. nothing is o; nameless = λ o. nothing is o };
  }

  pub opens_whole : (L : List ℕ) (t : Sequent) → IsWhole (form_of h.formula) → AreOwn l (h ∷ hs) → Names l k L t
      → IsAt v q place before (without h.name (assuming L h.formula t)) behind → OpensTo D (h ∷ hs) l k hs auto v q place before behind
  opens_whole L t whole own names at =
      let apart = label_apart l (h ∷ hs) k L t own names in
      let base = without h.name t in
      let here : without h.name (assuming L h.formula t) ≡ assuming L h.formula base = without_past t h.name L h.formula (turned apart.0) in
      let there : besides hs (without h.name (assuming L h.formula t)) ≡ assuming L h.formula (besides hs base) =
      ap (besides hs) here ∙ besides_assuming hs L h.formula base apart.1 in
      let named = names_beside l (h ∷ hs) k L t own names in
      let below : base.hypotheses ≡ (without h.name k).hypotheses = ap (λ xs. (without h.name (dressed xs k)).hypotheses) (named_hypotheses l k L t names) in
      record {
        goal = without h.name (assuming L h.formula t);
        at = at;
        all = subst (HasAll hs) (sym here) (has_all_more hs L h.formula base apart.1 (has_all_same hs (without h.name k) base below all.1));
        continues = record {
          opened = λ n u o. hypothesis L (besides hs base) whole named (subst (λ s. Opened D (formulas hs) auto s n u) there o);
          nameless = λ o. hypothesis L (besides hs base) whole named (subst (λ s. Nameless D (formulas hs) auto s) there o);
        };
      }

  pub opens_parts : (A B : Read) (y : List ℕ) → form_of h.formula ≡ both A B → formula_of k y ≡ None
      → IsAt v q place before (assuming y B (assuming h.name A (without h.name k))) behind → OpensTo D (h ∷ hs) l k (entry h.name A ∷ entry y B ∷ hs) l v q place before behind
  opens_parts A B y is new at =
      let x = h.name in
      let base = without x k in
      let goal = assuming y B (assuming x A base) in
      let gone : formula_of base x ≡ None = named_gone k.hypotheses x in
      let apart : y ≢ x = λ (e : y ≡ x). let clash : None ≡ Some h.formula = sym new ∙ ap (formula_of k) e ∙ all.0 in cc in
      let none : formula_of base y ≡ None = named_still_none k.hypotheses x y new in
      let first : without x goal ≡ assuming y B base = without_past (assuming x A base) x y B apart ∙ ap (assuming y B) (without_last base x A gone) in
      let second : without y (without x goal) ≡ base = ap (without y) first ∙ without_last base y B none in
      let same : besides hs (without y (without x goal)) ≡ besides hs base = ap (besides hs) second in
      record {
        goal = goal;
        at = at;
        all = (
          named_past (assuming x A base).hypotheses y x B apart ∙ named_last base.hypotheses x A gone,
          (ap (λ s. formula_of s y) first ∙ named_last base.hypotheses y B none, subst (HasAll hs) (sym second) all.1),
        );
        continues = record {
          opened = λ n u o. parts is (subst (λ s. Opened D (A ∷ B ∷ formulas hs) l s n u) same o);
          nameless = λ o. parts is (subst (λ s. Nameless D (A ∷ B ∷ formulas hs) l s) same o);
        };
      }

  pub opens_exists : (A : Ty) (t : Read) → form_of h.formula ≡ exists A t → length before ≡ place → Went D (exists_left h.name (given h.name)) k v q before behind
      → (G : Read) × OpensTo D (h ∷ hs) l k (entry h.name G ∷ hs) l v q place before behind × (connectives G < connectives h.formula)
  opens_exists A t is counted (ps, (cells, are_cells, (F, found, (q1, are, (L, s1, names, ((ns, name), (support, made), led))))), goals) =
      let x = h.name in
      let F_is : F ≡ h.formula = found_once k x h.formula F all.0 found in
      let shown : Some q1 ≡ Some (A, t) = sym are ∙ ap as_exists F_is ∙ ap exists_in is in
      let pair : q1 ≡ (A, t) = cc in
      let base = without x k in
      let X = raised (length cells) name A ns in
      let G = instance t (applied X ns) in
      let goal = assuming x G (over X base) in
      let gone : formula_of (over X base) x ≡ None = named_gone k.hypotheses x in
      let led_to : assuming L (instance q1.1 (applied (raised (length cells) name q1.0 ns) ns)) (over (raised (length cells) name q1.0 ns) s1) ≡ goal =
      ap (λ M. assuming M (instance q1.1 (applied (raised (length cells) name q1.0 ns) ns)) (over (raised (length cells) name q1.0 ns) s1)) names.1
      ∙ ap (λ s. assuming x (instance q1.1 (applied (raised (length cells) name q1.0 ns) ns)) (over (raised (length cells) name q1.0 ns) s)) names.2
      ∙ ap (λ (r : Ty × Read). assuming x (instance r.1 (applied (raised (length cells) name r.0 ns) ns)) (over (raised (length cells) name r.0 ns) base)) pair in
      let removed : without x goal ≡ over X base = without_last (over X base) x G gone in
      let same : besides hs (without x goal) ≡ over X (besides hs base) = ap (besides hs) removed ∙ besides_over hs X base in
      let vars : k.variables ≡ (besides (h ∷ hs) k).variables = sym (variables_beside (h ∷ hs) k) in
      let taken : Taken D (besides (h ∷ hs) k) h.formula A t G (over X (besides (h ∷ hs) k)) = record {
        number = length cells;
        name = name;
        names = ns;
        new = subst (λ (xs : List Variable). All (λ (y : Variable). y.number ≢ length cells) xs) vars (new_number cells k are_cells);
        named = same_naming D k (besides (h ∷ hs) k) (hint_of t) name vars (subst (λ (r : Ty × Read). IsNamedFor D k (hint_of r.1) name) pair made);
        support_is = subst (λ H. IsSupport H ns) F_is support;
        body = refl;
        goal = refl;
      } in (
        G,
        record {
          goal = goal;
          at = one_premise v q place before behind ps goal counted goals (led ∙ ap (λ s. s ∷ []) led_to);
          all = (named_last (over X base).hypotheses x G gone, subst (HasAll hs) (sym removed) (has_all_same hs base (over X base) refl all.1));
          continues = record {
            opened = λ n u o. variable is taken (subst (λ s. Opened D (G ∷ formulas hs) l s n u) same o);
            nameless = λ o. variable is taken (subst (λ s. Nameless D (G ∷ formulas hs) l s) same o);
          };
        },
        subst (λ n. n < connectives h.formula) (sym (same_connectives t (applied X ns) (rigid_applied X ns))) (fewer_exists h.formula t A is),
      )

  pub opens_nabla : (A : Ty) (t : Read) → form_of h.formula ≡ nabla A t → LabelsDiffer k.hypotheses → length before ≡ place → Went D (nabla_left h.name (given h.name)) k v q before behind
      → (G : Read) × OpensTo D (h ∷ hs) l k (entry h.name G ∷ hs) l v q place before behind × (connectives G < connectives h.formula)
  opens_nabla A t is differ counted (ps, (cells, are_cells, (F, found, (q1, are, (L, s1, names, (c, least, led))))), goals) =
      let x = h.name in
      let F_is : F ≡ h.formula = found_once k x h.formula F all.0 found in
      let shown : Some q1 ≡ Some (A, t) = sym are ∙ ap as_nabla F_is ∙ ap nabla_in is in
      let pair : q1 ≡ (A, t) = cc in
      let base = without x k in
      let G = instance t (name_term (record { number = c; type = A })) in
      let goal = assuming x G base in
      let gone : formula_of base x ≡ None = named_gone k.hypotheses x in
      let led_to : assuming L (instance q1.1 (name_term (record { number = c; type = q1.0 }))) s1 ≡ goal =
      ap (λ M. assuming M (instance q1.1 (name_term (record { number = c; type = q1.0 }))) s1) names.1
      ∙ ap (λ s. assuming x (instance q1.1 (name_term (record { number = c; type = q1.0 }))) s) names.2
      ∙ ap (λ (r : Ty × Read). assuming x (instance r.1 (name_term (record { number = c; type = r.0 }))) base) pair in
      let removed : without x goal ≡ base = without_last base x G gone in
      let same : besides hs (without x goal) ≡ besides hs base = ap (besides hs) removed in
      let chosen : IsLeast (MayName k h.formula A) c =
      subst (λ (r : Ty × Read). IsLeast (MayName k h.formula r.0) c) pair (subst (λ H. IsLeast (MayName k H q1.0) c) F_is least) in
      let taken = least_taken h hs k A differ all c chosen in (
        G,
        record {
          goal = goal;
          at = one_premise v q place before behind ps goal counted goals (led ∙ ap (λ s. s ∷ []) led_to);
          all = (named_last base.hypotheses x G gone, subst (HasAll hs) (sym removed) all.1);
          continues = record {
            opened = λ n u o. constant is taken (subst (λ s. Opened D (G ∷ formulas hs) l s n u) same o);
            nameless = λ o. constant is taken (subst (λ s. Nameless D (G ∷ formulas hs) l s) same o);
          };
        },
        subst (λ n. n < connectives h.formula) (sym (same_connectives t (name_term (record { number = c; type = A })) (rigid_name (record { number = c; type = A })))) (fewer_nabla h.formula t A is),
      )

  pub nameless_whole : IsWhole (form_of h.formula) → AreOwn l (h ∷ hs) → NoName l k → Nameless D (h.formula ∷ formulas hs) l (besides (h ∷ hs) k)
  nameless_whole whole own none = unnamed whole (nameless_beside l (h ∷ hs) k own none)
