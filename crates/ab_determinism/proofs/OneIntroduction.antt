-- Conclusions are taken apart in one way.
use Rattle.std.proofs.Common.{◌≡◌, ◌⊎◌, inl, inr, ℕ, List, [], refl, sym, ◌∙◌, ap, subst, append-nil}
use Rattle.std.specs.Prelude.{All}
use Rattle.std.proofs.lemmas.List.Elements.{All-nil, All-head}
use Rattle.ab_term.specs.Types.{Ty}
use Rattle.ab_term.specs.Terms.{Nominal, Read}
use Rattle.ab_term.specs.Substitution.{instance}
use Rattle.ab_formulas.specs.Declarations.{Declarations, signature_in}
use Rattle.ab_formulas.specs.Forms as form
use Rattle.ab_formulas.specs.Forms.{Form, form_of, implies_in, for_all_in, nabla_in}
use Rattle.ab_formulas.specs.NewNames.{Names, NoName, IsLeast}
use Rattle.ab_formulas.specs.Sequents.{Sequent, proving, assuming, goal_names}
use Rattle.ab_theory.specs.Rules.{MayName, name_term}
use Rattle.ab_theory.proofs.OneAnswer.{least_once}
use Rattle.ab_theory.proofs.RulesParts.{MayStand, implies_may, for_all_scope, nabla_scope}
use Rattle.ab_theory.proofs.Sequents.{proving_goal}
use Rattle.ab_formulas.specs.NamedGoals.{Goal, name_in, with_names, named}
use Rattle.ab_formulas.specs.NamedGoals as shown
use Rattle.ab_effects.specs.Openings.{Taken}
use Rattle.ab_effects.specs.Introductions.{IsKept, Introduced, Unnamed, first_label, others}
use Rattle.ab_determinism.proofs.Outlines.{also_for_all, also_nabla, also_implies, also_kept}
use Rattle.ab_determinism.proofs.Namings.{names_alike, nameless_also, named_also, made_alike}
use Rattle.ab_determinism.proofs.Alike.{IsFine, Alike, standing, M, closed_goal, taken_fine, assumed, with_constant, one_more, one_standing, fine_standing, same_instance, same_all_constants, assumed_alike}
use Rattle.ab_determinism.proofs.OneWay.{named_or_not}

-- HOW A CONCLUSION IS TAKEN APART, by its form

module _ (D : Declarations) (xs : List (List ℕ)) (s : Sequent) where
  abbrev TakesBy : List (List ℕ) → Sequent → Form → Type 0
  TakesBy ys v (form.for_all A t) = (w : Sequent) × (G : Read) × Taken D s s.conclusion A t G w × Introduced D xs (proving G w) ys v
  TakesBy ys v (form.nabla A t) = (n : ℕ) × IsLeast (MayName s s.conclusion A) n × Introduced D xs (proving (instance t (name_term (record { number = n; type = A }))) s) ys v
  TakesBy ys v (form.implies A B) = (x : List ℕ) × (w : Sequent) × Names (first_label xs) s x w × Introduced D (others xs) (proving B (assuming x A w)) ys v
  TakesBy ys v _ = (ys ≡ xs) × (v ≡ s)

  kept_takes : (g : Form) → IsKept g → TakesBy xs s g
  kept_takes (form.for_all A t) h = absurd h
  kept_takes (form.nabla A t) h = absurd h
  kept_takes (form.implies A B) h = absurd h
  kept_takes _ h = (refl, refl)

  takes_kept : (ys : List (List ℕ)) (v : Sequent) (g : Form) → IsKept g → TakesBy ys v g → (ys ≡ xs) × (v ≡ s)
  takes_kept ys v (form.for_all A t) h d = absurd h
  takes_kept ys v (form.nabla A t) h d = absurd h
  takes_kept ys v (form.implies A B) h d = absurd h
  takes_kept ys v _ h d = d

  abbrev UnnamedBy : Form → Type 0
  UnnamedBy (form.for_all A t) = (w : Sequent) × (G : Read) × Taken D s s.conclusion A t G w × Unnamed D xs (proving G w)
  UnnamedBy (form.nabla A t) = (n : ℕ) × IsLeast (MayName s s.conclusion A) n × Unnamed D xs (proving (instance t (name_term (record { number = n; type = A }))) s)
  UnnamedBy (form.implies A B) = ((x : List ℕ) × (w : Sequent) × Names (first_label xs) s x w × Unnamed D (others xs) (proving B (assuming x A w))) ⊎ NoName (first_label xs) s
  UnnamedBy _ = ⊥

  kept_unnamed : (g : Form) → IsKept g → UnnamedBy g → ⊥
  kept_unnamed (form.for_all A t) h d = h
  kept_unnamed (form.nabla A t) h d = h
  kept_unnamed (form.implies A B) h d = h
  kept_unnamed _ h d = d

takes_by : {D : Declarations} {xs ys : List (List ℕ)} {s v : Sequent} → Introduced D xs s ys v → TakesBy D xs s ys v (form_of s.conclusion)
takes_by {D = D} {xs = xs} {s = s} (Introduced.none h) = kept_takes D xs s (form_of s.conclusion) h
takes_by {D = D} {xs = xs} {ys = ys} {s = s} {v = v} (Introduced.variable {v = w} {G = G} e k d) = subst (TakesBy D xs s ys v) (sym e) (w, G, k, d)
takes_by {D = D} {xs = xs} {ys = ys} {s = s} {v = v} (Introduced.constant {n = n} e least d) = subst (TakesBy D xs s ys v) (sym e) (n, least, d)
takes_by {D = D} {xs = xs} {ys = ys} {s = s} {v = v} (Introduced.hypothesis x w e n d) = subst (TakesBy D xs s ys v) (sym e) (x, w, n, d)

unnamed_by : {D : Declarations} {xs : List (List ℕ)} {s : Sequent} → Unnamed D xs s → UnnamedBy D xs s (form_of s.conclusion)
unnamed_by {D = D} {xs = xs} {s = s} (Unnamed.variable {v = w} {G = G} e k d) = subst (UnnamedBy D xs s) (sym e) (w, G, k, d)
unnamed_by {D = D} {xs = xs} {s = s} (Unnamed.constant {n = n} e least d) = subst (UnnamedBy D xs s) (sym e) (n, least, d)
unnamed_by {D = D} {xs = xs} {s = s} (Unnamed.hypothesis x w e n d) = subst (UnnamedBy D xs s) (sym e) (inl (x, w, n, d))
unnamed_by {D = D} {xs = xs} {s = s} (Unnamed.unnamed e none) = subst (UnnamedBy D xs s) (sym e) (inr none)

-- TWO GOALS, a step further

abbrev with_conclusion : shown.Named → Goal → Goal
with_conclusion C g = record { variables = g.variables; hypotheses = g.hypotheses; conclusion = C; counter = g.counter }

-- the goals prove what is the same
proving_alike : (s u : Sequent) (F G : Read) → named s ≡ named u → with_names s.variables F ≡ with_names u.variables G → named (proving F s) ≡ named (proving G u)
proving_alike s u F G goals same = ap (λ g. with_conclusion (with_names s.variables F) g) goals ∙ ap (λ C. with_conclusion C (named u)) same

no_formulas : (D : Declarations) (N : List Nominal) (s : Sequent) → IsFine D N s [] → (F : Read) → MayStand (signature_in D) s.variables N F → IsFine D N (proving F s) []
no_formulas D N s f F may = record { goal = proving_goal D N s F f.goal may; formulas = All-nil (MayStand (signature_in D) s.variables N) }

module _ (D : Declarations) (N : List Nominal) (s u : Sequent) (alike : Alike D N s [] u []) where
  pub same_conclusion : with_names s.variables s.conclusion ≡ with_names u.variables u.conclusion
  same_conclusion = ap (λ (g : Goal). g.conclusion) alike.goals

  over_variable : (A : Ty) (t r X Y : Read) (v w : Sequent) → form_of s.conclusion ≡ form.for_all A t → form_of u.conclusion ≡ form.for_all A r → with_names s.variables t ≡ with_names u.variables r
      → Taken D s s.conclusion A t X v → Taken D u u.conclusion A r Y w → Alike D N (proving X v) [] (proving Y w) []
  over_variable A t r X Y v w is at p k j =
      let may = alike.first.goal.conclusion in
      let can = alike.second.goal.conclusion in
      let scope = for_all_scope (signature_in D) s.variables N s.conclusion (A, t) may (ap for_all_in is) in
      let place = for_all_scope (signature_in D) u.variables N u.conclusion (A, r) can (ap for_all_in at) in
      let made = made_alike D s u alike.goals (closed_goal D N s alike.first.goal) (closed_goal D N u alike.second.goal) s.conclusion u.conclusion same_conclusion
      (λ a b c d e. alike.one a b (may.names a c) (may.names b d) e) A t r p scope.put.closed place.put.closed X Y v w k j in
      let one = taken_fine D N s v s.conclusion X A t [] scope may alike.first.goal alike.first.formulas k in
      let two = taken_fine D N u w u.conclusion Y A r [] place can alike.second.goal alike.second.formulas j in
      record {
        goals = proving_alike v w X Y made.0 made.1;
        formulas = refl;
        one = alike.one;
        first = record { goal = proving_goal D N v X one.goal (All-head (MayStand (signature_in D) v.variables N) X [] one.formulas); formulas = All-nil (MayStand (signature_in D) v.variables N) };
        second = record { goal = proving_goal D N w Y two.goal (All-head (MayStand (signature_in D) w.variables N) Y [] two.formulas); formulas = All-nil (MayStand (signature_in D) w.variables N) };
      }

  over_constant : (A : Ty) (t r : Read) (n : ℕ) → form_of s.conclusion ≡ form.nabla A t → form_of u.conclusion ≡ form.nabla A r → with_names s.variables t ≡ with_names u.variables r → MayName s s.conclusion A n
      → Alike D (M D (standing s []) A n) (proving (instance t (name_term (record { number = n; type = A }))) s) [] (proving (instance r (name_term (record { number = n; type = A }))) u) []
  over_constant A t r n is at p m =
      let K = standing s [] in
      let c : Nominal = record { number = n; type = A } in
      let same_standing : standing u [] ≡ K = sym (same_all_constants s u alike.goals [] [] alike.formulas) in
      let fine = fine_standing D N alike.one s [] alike.first in
      let other : IsFine D K u [] = subst (λ L. IsFine D L u []) same_standing (fine_standing D N alike.one u [] alike.second) in
      let scope = nabla_scope (signature_in D) s.variables K s.conclusion (A, t) fine.goal.conclusion (ap nabla_in is) in
      let place = nabla_scope (signature_in D) u.variables K u.conclusion (A, r) other.goal.conclusion (ap nabla_in at) in
      let one = with_constant D K A n s t [] scope fine.goal fine.formulas in
      let two = with_constant D K A n u r [] place other.goal other.formulas in
      record {
        goals = proving_alike s u (instance t (name_term c)) (instance r (name_term c)) alike.goals (same_instance s u t r c p);
        formulas = refl;
        one = one_more D K A n (one_standing D N alike.one s [] alike.first) (subst (All (λ (b : Nominal). b.number ≡ n → b.type ≡ A)) (sym (append-nil (goal_names s))) m.one_type);
        first = no_formulas D (M D K A n) s (record { goal = one.goal; formulas = All-nil (MayStand (signature_in D) s.variables (M D K A n)) }) (instance t (name_term c))
            (All-head (MayStand (signature_in D) s.variables (M D K A n)) (instance t (name_term c)) [] one.formulas);
        second = no_formulas D (M D K A n) u (record { goal = two.goal; formulas = All-nil (MayStand (signature_in D) u.variables (M D K A n)) }) (instance r (name_term c))
            (All-head (MayStand (signature_in D) u.variables (M D K A n)) (instance r (name_term c)) [] two.formulas);
      }

  over_hypothesis : (xs : List (List ℕ)) (A B C E : Read) (x y : List ℕ) (v w : Sequent) → form_of s.conclusion ≡ form.implies A B → form_of u.conclusion ≡ form.implies C E
      → with_names s.variables A ≡ with_names u.variables C → with_names s.variables B ≡ with_names u.variables E → Names (first_label xs) s x v → Names (first_label xs) u y w
      → Alike D N (proving B (assuming x A v)) [] (proving E (assuming y C w)) []
  over_hypothesis xs A B C E x y v w is at p q a b =
      let may = implies_may (signature_in D) s.variables N s.conclusion (A, B) alike.first.goal.conclusion (ap implies_in is) in
      let can = implies_may (signature_in D) u.variables N u.conclusion (C, E) alike.second.goal.conclusion (ap implies_in at) in
      let named_so = names_alike s u alike.goals (first_label xs) x y v w a b in
      let one = assumed D N s v (first_label xs) x A [] alike.first.goal may.0 alike.first.formulas a in
      let two = assumed D N u w (first_label xs) y C [] alike.second.goal can.0 alike.second.formulas b in
      record {
        goals = proving_alike (assuming x A v) (assuming y C w) B E (assumed_alike s u v w x y A C named_so.name named_so.goals named_so.first named_so.second p)
            (ap (λ zs. with_names zs B) named_so.first ∙ q ∙ sym (ap (λ zs. with_names zs E) named_so.second));
        formulas = refl;
        one = alike.one;
        first = no_formulas D N (assuming x A v) one B (subst (λ zs. MayStand (signature_in D) zs N B) (sym named_so.first) may.1);
        second = no_formulas D N (assuming y C w) two E (subst (λ zs. MayStand (signature_in D) zs N E) (sym named_so.second) can.1);
      }

-- the least constant is one
same_name_taken : (s u : Sequent) → named s ≡ named u → (A : Ty) (n k : ℕ) → with_names s.variables s.conclusion ≡ with_names u.variables u.conclusion
    → IsLeast (MayName s s.conclusion A) n → IsLeast (MayName u u.conclusion A) k → k ≡ n
same_name_taken s u same A n k one a b =
    least_once (MayName u u.conclusion A) k n b (record {
      has = named_also s u same s.conclusion u.conclusion A n one a.has;
      first = λ j l m. a.first j l (named_also u s (sym same) u.conclusion s.conclusion A j (sym one) m);
    })

-- WHAT IS TAKEN OFF leaves the same names, and one goal with names for numbers
pub introduced_once : {D : Declarations} {xs ys : List (List ℕ)} {s v : Sequent} → Introduced D xs s ys v → (N : List Nominal) (u : Sequent) → Alike D N s [] u []
    → (zs : List (List ℕ)) (w : Sequent) → Introduced D xs u zs w → (ys ≡ zs) × (named v ≡ named w)
introduced_once {D = D} {xs = xs} {s = s} (Introduced.none h) N u alike zs w other =
    let at = also_kept (name_in s.variables) (name_in u.variables) s.conclusion u.conclusion (same_conclusion D N s u alike) h in
    let there = takes_kept D xs u zs w (form_of u.conclusion) at (takes_by other) in
    (sym there.0, alike.goals ∙ ap named (sym there.1))
introduced_once {D = D} {xs = xs} {s = s} (Introduced.variable {v = v} {A = A} {t = t} {G = X} e k d) N u alike zs w other =
    let at = also_for_all (name_in s.variables) (name_in u.variables) s.conclusion u.conclusion (same_conclusion D N s u alike) A t e in
    let there = subst (TakesBy D xs u zs w) at.1 (takes_by other) in
    introduced_once d N (proving there.1 there.0) (over_variable D N s u alike A t at.0 X there.1 v there.0 e at.1 at.2 k there.2) zs w there.3
introduced_once {D = D} {xs = xs} {s = s} (Introduced.constant {A = A} {t = t} {n = n} e least d) N u alike zs w other =
    let same = same_conclusion D N s u alike in
    let at = also_nabla (name_in s.variables) (name_in u.variables) s.conclusion u.conclusion same A t e in
    let there = subst (TakesBy D xs u zs w) at.1 (takes_by other) in
    let number = same_name_taken s u alike.goals A n there.0 same least there.1 in
    introduced_once d (M D (standing s []) A n) (proving (instance at.0 (name_term (record { number = n; type = A }))) u) (over_constant D N s u alike A t at.0 n e at.1 at.2 least.has) zs w
    (subst (λ j. Introduced D xs (proving (instance at.0 (name_term (record { number = j; type = A }))) u) zs w) number there.2)
introduced_once {D = D} {xs = xs} {s = s} (Introduced.hypothesis {A = A} {B = B} x v e n d) N u alike zs w other =
    let at = also_implies (name_in s.variables) (name_in u.variables) s.conclusion u.conclusion (same_conclusion D N s u alike) A B e in
    let there = subst (TakesBy D xs u zs w) at.2 (takes_by other) in
    introduced_once d N (proving at.1 (assuming there.0 at.0 there.1)) (over_hypothesis D N s u alike xs A B at.0 at.1 x there.0 v there.1 e at.2 at.3 at.4 n there.2) zs w there.3

-- what can be taken off can't fail to be
pub introduced_or_not : {D : Declarations} {xs ys : List (List ℕ)} {s v : Sequent} → Introduced D xs s ys v → (N : List Nominal) (u : Sequent) → Alike D N s [] u [] → Unnamed D xs u → ⊥
introduced_or_not {D = D} {xs = xs} {s = s} (Introduced.none h) N u alike other =
    let at = also_kept (name_in s.variables) (name_in u.variables) s.conclusion u.conclusion (same_conclusion D N s u alike) h in
    kept_unnamed D xs u (form_of u.conclusion) at (unnamed_by other)
introduced_or_not {D = D} {xs = xs} {s = s} (Introduced.variable {v = v} {A = A} {t = t} {G = X} e k d) N u alike other =
    let at = also_for_all (name_in s.variables) (name_in u.variables) s.conclusion u.conclusion (same_conclusion D N s u alike) A t e in
    let there = subst (UnnamedBy D xs u) at.1 (unnamed_by other) in
    introduced_or_not d N (proving there.1 there.0) (over_variable D N s u alike A t at.0 X there.1 v there.0 e at.1 at.2 k there.2) there.3
introduced_or_not {D = D} {xs = xs} {s = s} (Introduced.constant {A = A} {t = t} {n = n} e least d) N u alike other =
    let same = same_conclusion D N s u alike in
    let at = also_nabla (name_in s.variables) (name_in u.variables) s.conclusion u.conclusion same A t e in
    let there = subst (UnnamedBy D xs u) at.1 (unnamed_by other) in
    let number = same_name_taken s u alike.goals A n there.0 same least there.1 in
    introduced_or_not d (M D (standing s []) A n) (proving (instance at.0 (name_term (record { number = n; type = A }))) u) (over_constant D N s u alike A t at.0 n e at.1 at.2 least.has)
    (subst (λ j. Unnamed D xs (proving (instance at.0 (name_term (record { number = j; type = A }))) u)) number there.2)
introduced_or_not {D = D} {xs = xs} {s = s} (Introduced.hypothesis {A = A} {B = B} x v e n d) N u alike other =
    let at = also_implies (name_in s.variables) (name_in u.variables) s.conclusion u.conclusion (same_conclusion D N s u alike) A B e in
    elim (subst (UnnamedBy D xs u) at.2 (unnamed_by other)) [
      | inl there ↦ introduced_or_not d N (proving at.1 (assuming there.0 at.0 there.1)) (over_hypothesis D N s u alike xs A B at.0 at.1 x there.0 v there.1 e at.2 at.3 at.4 n there.2) there.3
      | inr none ↦ named_or_not (first_label xs) s x v n (nameless_also u s (sym alike.goals) (first_label xs) none)
    ]
