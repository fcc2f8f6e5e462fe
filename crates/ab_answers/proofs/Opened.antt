-- FORMULAS ARE OPENED, OR A NEW HYPOTHESIS GETS NO NAME; and so a conclusion is taken apart. Where names are few.
use Rattle.std.proofs.Common.{◌≡◌, ◌≢◌, ◌⊎◌, inl, inr, ℕ, zero, suc, ◌+◌, ◌*◌, ◌<◌, List, [], ◌∷◌, ◌++◌, refl, sym, subst, arith}
use Rattle.std.specs.Prelude.{Contains}
use Rattle.ab_term.specs.Types.{Ty}
use Rattle.ab_term.specs.Terms.{Nominal, Read}
use Rattle.ab_term.specs.Names.{support}
use Rattle.ab_term.specs.Substitution.{instance}
use Rattle.ab_term.proofs.Lists.{Contains-none, Contains-cases, All-from_contains}
use Rattle.ab_unifiers.specs.Choices.{in_order}
use Rattle.ab_formulas.specs.Declarations.{Declarations}
use Rattle.ab_formulas.specs.Forms.{Form, truth, falsity, both, either, implies, equal, for_all, exists, nabla, marked, other, form_of}
use Rattle.ab_formulas.specs.Sequents.{Variable, Sequent, goal_names, names_of, assuming, proving, over}
use Rattle.ab_formulas.specs.NewNames.{Label, auto, IsLeast}
use Rattle.ab_theory.specs.Rules.{IsNew, hint_of, name_term, raised, applied}
use Rattle.ab_effects.specs.Openings.{IsWhole, MayTake, Taken, Opened, Nameless}
use Rattle.ab_effects.specs.Introductions.{IsKept, first_label, others, Introduced, Unnamed}
use Rattle.ab_existence.specs.Certainty.{IsCertain}
use Rattle.ab_existence.proofs.Certain.{sure, and_so, and_also, least}
use Rattle.ab_existence.proofs.Rows.{named_or_not}
use Rattle.ab_existence.proofs.Namings.{support_there, above, number_below, above_some, constant_there}
use Rattle.ab_answers.specs.Skeletons.{skeleton}
use Rattle.ab_existence.specs.FewNames.{HasRoom}
use Rattle.ab_existence.proofs.Room.{finds_name, room_left, room_kept}
use Rattle.ab_answers.proofs.Skeletons.{same_skeleton, rigid_applied, rigid_name, fewer_both, fewer_implies, fewer_for_all, fewer_exists, fewer_nabla}

-- more than each of the numbers
abbrev above_variables : List Variable → ℕ
above_variables [] = 0
above_variables (x ∷ xs) = x.number + (above_variables xs + 1)

variable_below : (xs : List Variable) (x : Variable) → Contains xs x → x.number < above_variables xs
variable_below [] x c = absurd (Contains-none x c)
variable_below (z ∷ zs) x c =
    elim (Contains-cases z zs x c) [
      | inl e ↦ subst (λ (y : Variable). y.number < above_variables (z ∷ zs)) e (omega arith)
      | inr m ↦ (let rest = variable_below zs x m in omega (arith, rest))
    ]

new_there : (s : Sequent) → IsNew (above_variables s.variables) s
new_there s = All-from_contains (λ (x : Variable). x.number ≢ above_variables s.variables) s.variables (λ x c e. let l = variable_below s.variables x c in omega (arith, l, e))

-- a constant may be put for the name of a `nabla`, where formulas are still to be opened
taken_constant : (s : Sequent) (F : Read) (Fs : List Read) (A : Ty) → IsCertain ((n : ℕ) × IsLeast (MayTake s F Fs A) n)
taken_constant s F Fs A =
    let held = goal_names s ++ names_of (F ∷ Fs) in
    let n = above (support F) + above held in
    let some = above_some (support F) in
    let more = above_some held in
    least (MayTake s F Fs A) n (record {
      positive = omega (arith, some);
      outside = λ c. let l = number_below (support F) (record { number = n; type = A }) c in omega (arith, l, more);
      one_type = All-from_contains (λ (b : Nominal). b.number ≡ n → b.type ≡ A) held (λ b c e. absurd (let l = number_below held b c in omega (arith, l, e)));
    })

module _ (D : Declarations) where
  abbrev Takes : ℕ → Sequent → Read → Ty → Read → Type 0
  Takes n s F A t = (v : Sequent) × (G : Read) × Taken D s F A t G v × (skeleton G ≡ skeleton t) × HasRoom D v n

  -- a new variable is put for a bound name
  taken_there : (n : ℕ) (s : Sequent) (F : Read) (A : Ty) (t : Read) → HasRoom D s (suc n) → IsCertain (Takes n s F A t)
  taken_there n s F A t room =
      and_also (finds_name D n s (hint_of t) room)
      (λ name.
      let names = in_order (support F) in
      let x = raised (above_variables s.variables) name.0 A names in (
        over x s,
        instance t (applied x names),
        record { number = above_variables s.variables; name = name.0; names = names; new = new_there s; named = name.1; support_is = support_there F; body = refl; goal = refl },
        same_skeleton t (applied x names) (rigid_applied x names),
        room_left D n s x room,
      ))

  -- FORMULAS

  abbrev pub OpensOrNot : List Read → Label → Sequent → Type 0
  OpensOrNot Fs l s = IsCertain (((p : Label × Sequent) × Opened D Fs l s p.0 p.1) ⊎ Nameless D Fs l s)

  abbrev weights : List Read → ℕ
  weights [] = 0
  weights (F ∷ Fs) = (2 * skeleton F + 1) + weights Fs

  -- how many variables may come of them
  abbrev pub counts : List Read → ℕ
  counts [] = 0
  counts (F ∷ Fs) = skeleton F + counts Fs

  module _ (n : ℕ) (rest : (Fs : List Read) (l : Label) (s : Sequent) → weights Fs < n → HasRoom D s (counts Fs) → OpensOrNot Fs l s) (F : Read) (Fs : List Read) (l : Label) (s : Sequent)
      (less : weights (F ∷ Fs) < suc n) (room : HasRoom D s (counts (F ∷ Fs))) where
    as_whole : IsWhole (form_of F) → OpensOrNot (F ∷ Fs) l s
    as_whole whole =
        and_so (named_or_not l s)
        (λ named. elim named [
          | inl a ↦ and_also (rest Fs auto (assuming a.0 F a.1) (omega (arith, less)) (room_kept D l s a.0 a.1 (counts Fs) a.2 (omega (arith, room))))
              (λ o. elim o [ inl p ↦ inl (p.0, Opened.hypothesis a.0 a.1 whole a.2 p.1) | inr q ↦ inr (Nameless.hypothesis a.0 a.1 whole a.2 q) ])
          | inr spent ↦ sure (inr (Nameless.unnamed whole spent))
        ])

    open_by : (f : Form) → form_of F ≡ f → OpensOrNot (F ∷ Fs) l s
    open_by truth e = and_also (rest Fs l s (omega (arith, less)) (omega (arith, room))) (λ o. elim o [ inl p ↦ inl (p.0, Opened.nothing e p.1) | inr q ↦ inr (Nameless.nothing e q) ])
    open_by (both A B) e =
        let fewer = fewer_both F A B e in
        and_also (rest (A ∷ B ∷ Fs) l s (omega (arith, less, fewer)) (omega (arith, room, fewer))) (λ o. elim o [ inl p ↦ inl (p.0, Opened.parts e p.1) | inr q ↦ inr (Nameless.parts e q) ])
    open_by (exists A t) e =
        let fewer = fewer_exists F t A e in
        and_so (taken_there (skeleton t + counts Fs) s F A t (omega (arith, room, fewer)))
        (λ v. and_also (rest (v.1 ∷ Fs) l v.0 (let same = v.3 in omega (arith, less, fewer, same)) (let same = v.3 in let left = v.4 in omega (arith, left, same)))
        (λ o. elim o [ inl p ↦ inl (p.0, Opened.variable e v.2 p.1) | inr q ↦ inr (Nameless.variable e v.2 q) ]))
    open_by (nabla A t) e =
        let fewer = fewer_nabla F t A e in
        and_so (taken_constant s F Fs A)
        (λ c.
        let a : Nominal = record { number = c.0; type = A } in
        let same = same_skeleton t (name_term a) (rigid_name a) in
        and_also (rest (instance t (name_term a) ∷ Fs) l s (omega (arith, less, fewer, same)) (omega (arith, room, fewer, same)))
        (λ o. elim o [ inl p ↦ inl (p.0, Opened.constant e c.1 p.1) | inr q ↦ inr (Nameless.constant e c.1 q) ]))
    open_by falsity e = as_whole (subst IsWhole (sym e) tt)
    open_by (either A B) e = as_whole (subst IsWhole (sym e) tt)
    open_by (implies A B) e = as_whole (subst IsWhole (sym e) tt)
    open_by (equal A t u) e = as_whole (subst IsWhole (sym e) tt)
    open_by (for_all A t) e = as_whole (subst IsWhole (sym e) tt)
    open_by (marked m t) e = as_whole (subst IsWhole (sym e) tt)
    open_by other e = as_whole (subst IsWhole (sym e) tt)

  opened_by : (n : ℕ) (Fs : List Read) (l : Label) (s : Sequent) → weights Fs < n → HasRoom D s (counts Fs) → OpensOrNot Fs l s
  opened_by zero Fs l s less room = absurd (omega (arith, less))
  opened_by (suc n) [] l s less room = sure (inl ((l, s), Opened.none))
  opened_by (suc n) (F ∷ Fs) l s less room = open_by n (opened_by n) F Fs l s less room (form_of F) refl

  pub opened_there : (F : Read) (l : Label) (s : Sequent) → HasRoom D s (skeleton F) → OpensOrNot (F ∷ []) l s
  opened_there F l s room = opened_by (suc (weights (F ∷ []))) (F ∷ []) l s (omega arith) (omega (arith, room))

  -- A CONCLUSION

  abbrev pub IntroducedOrNot : List (List ℕ) → Sequent → Type 0
  IntroducedOrNot xs s = IsCertain (((p : List (List ℕ) × Sequent) × Introduced D xs s p.0 p.1) ⊎ Unnamed D xs s)

  module _ (n : ℕ) (rest : (xs : List (List ℕ)) (s : Sequent) → skeleton s.conclusion < n → HasRoom D s (skeleton s.conclusion) → IntroducedOrNot xs s) (xs : List (List ℕ)) (s : Sequent)
      (less : skeleton s.conclusion < suc n) (room : HasRoom D s (skeleton s.conclusion)) where
    stays : IsKept (form_of s.conclusion) → IntroducedOrNot xs s
    stays kept = sure (inl ((xs, s), Introduced.none kept))

    take_by : (f : Form) → form_of s.conclusion ≡ f → IntroducedOrNot xs s
    take_by (for_all A t) e =
        let fewer = fewer_for_all s.conclusion t A e in
        and_so (taken_there (skeleton t) s s.conclusion A t (omega (arith, room, fewer)))
        (λ v. and_also (rest xs (proving v.1 v.0) (let same = v.3 in omega (arith, less, fewer, same)) (let same = v.3 in let left = v.4 in omega (arith, left, same)))
        (λ o. elim o [ inl p ↦ inl (p.0, Introduced.variable e v.2 p.1) | inr q ↦ inr (Unnamed.variable e v.2 q) ]))
    take_by (nabla A t) e =
        let fewer = fewer_nabla s.conclusion t A e in
        and_so (constant_there s s.conclusion A)
        (λ c.
        let a : Nominal = record { number = c.0; type = A } in
        let same = same_skeleton t (name_term a) (rigid_name a) in
        and_also (rest xs (proving (instance t (name_term a)) s) (omega (arith, less, fewer, same)) (omega (arith, room, fewer, same)))
        (λ o. elim o [ inl p ↦ inl (p.0, Introduced.constant e c.1 p.1) | inr q ↦ inr (Unnamed.constant e c.1 q) ]))
    take_by (implies A B) e =
        let fewer = fewer_implies s.conclusion A B e in
        and_so (named_or_not (first_label xs) s)
        (λ named. elim named [
          | inl a ↦ and_also (rest (others xs) (proving B (assuming a.0 A a.1)) (omega (arith, less, fewer)) (room_kept D (first_label xs) s a.0 a.1 (skeleton B) a.2 (omega (arith, room, fewer))))
              (λ o. elim o [ inl p ↦ inl (p.0, Introduced.hypothesis a.0 a.1 e a.2 p.1) | inr q ↦ inr (Unnamed.hypothesis a.0 a.1 e a.2 q) ])
          | inr spent ↦ sure (inr (Unnamed.unnamed e spent))
        ])
    take_by truth e = stays (subst IsKept (sym e) tt)
    take_by falsity e = stays (subst IsKept (sym e) tt)
    take_by (both A B) e = stays (subst IsKept (sym e) tt)
    take_by (either A B) e = stays (subst IsKept (sym e) tt)
    take_by (equal A t u) e = stays (subst IsKept (sym e) tt)
    take_by (exists A t) e = stays (subst IsKept (sym e) tt)
    take_by (marked m t) e = stays (subst IsKept (sym e) tt)
    take_by other e = stays (subst IsKept (sym e) tt)

  introduced_by : (n : ℕ) (xs : List (List ℕ)) (s : Sequent) → skeleton s.conclusion < n → HasRoom D s (skeleton s.conclusion) → IntroducedOrNot xs s
  introduced_by zero xs s less room = absurd (omega (arith, less))
  introduced_by (suc n) xs s less room = take_by n (introduced_by n) xs s less room (form_of s.conclusion) refl

  pub introduced_there : (xs : List (List ℕ)) (s : Sequent) → HasRoom D s (skeleton s.conclusion) → IntroducedOrNot xs s
  introduced_there xs s room = introduced_by (suc (skeleton s.conclusion)) xs s (omega arith) room
