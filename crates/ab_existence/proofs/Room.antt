-- A goal that has room finds a name for a hint, and has room for one less then.
use Rattle.std.proofs.Common.{◌≡◌, ℕ, suc, List, [], ◌∷◌, ◌++◌, map, length, codes, refl, sym, ap, subst, arith}
use Rattle.std.specs.Prelude.{Contains}
use Rattle.ab_term.proofs.Lists.{Contains-here, Contains-there}
use Rattle.ab_term.specs.Variables.{Substitution}
use Rattle.ab_unifiers.specs.Replacements.{Cell}
use Rattle.ab_unifiers.specs.Unification.{unified, Solves}
use Rattle.ab_formulas.specs.Declarations.{Declarations, constant_names}
use Rattle.ab_formulas.specs.NewNames.{Label, auto, given, Names, IsNamedFor}
use Rattle.ab_formulas.specs.Sequents.{Variable, Sequent, over}
use Rattle.ab_theory.specs.Equations.{made}
use Rattle.ab_theory.specs.Splits.{problem_of, CaseOver}
use Rattle.ab_theory.specs.Subjects.{Subject, cases_by}
use Rattle.ab_existence.specs.Certainty.{IsCertain}
use Rattle.ab_existence.specs.FewNames.{HasRoom, HasRoomInCases}
use Rattle.ab_existence.proofs.FreeNames.{name_by_hint}
use Rattle.ab_existence.proofs.Namings.{AllHaveRoom}

module _ (D : Declarations) where
  pub finds_name : (n : ℕ) (s : Sequent) (hint : List ℕ) → HasRoom D s (suc n) → IsCertain ((name : List ℕ) × IsNamedFor D s hint name)
  finds_name n s hint room = name_by_hint D s hint (omega (arith, room))

  more_names : (cs : List (List ℕ)) (y : Variable) (xs : List Variable) → length (map (λ (x : Variable). x.name) (xs ++ y ∷ []) ++ cs) ≡ suc (length (map (λ (x : Variable). x.name) xs ++ cs))
  more_names cs y [] = refl
  more_names cs y (x ∷ xs) = ap suc (more_names cs y xs)

  pub room_left : (n : ℕ) (s : Sequent) (y : Variable) → HasRoom D s (suc n) → HasRoom D (over y s) n
  room_left n s y room = let more = more_names (constant_names D) y s.variables in omega (arith, room, more)

  -- a name for a hypothesis leaves the room as it is
  pub room_kept : (l : Label) (s : Sequent) (name : List ℕ) (v : Sequent) (n : ℕ) → Names l s name v → HasRoom D s n → HasRoom D v n
  room_kept auto s name v n named room = subst (λ t. HasRoom D t n) (sym named.3) room
  room_kept (given x) s name v n named room = subst (λ t. HasRoom D t n) (sym named.2) room

  -- in each case
  all_room_in : (cs : List CaseOver)
      → ((c : CaseOver) (cells more : List (Cell (List ℕ))) (r : Substitution ℕ (List ℕ)) → Contains cs c → Solves (codes "x") (problem_of (c cells)) (unified more r)
      → HasRoom D (c cells).goal (length (made (c cells).before more r)))
      → AllHaveRoom (IsNamedFor D) (λ n s. HasRoom D s n) finds_name room_left cs
  all_room_in [] room = tt
  all_room_in (c ∷ cs) room = (λ cells more r p. room c cells more r (Contains-here c cs) p, all_room_in cs (λ e cells more r there p. room e cells more r (Contains-there c cs e there) p))

  pub all_room : (goal rest : Sequent) (name : List ℕ) (x : Subject) → HasRoomInCases D goal rest name x → AllHaveRoom (IsNamedFor D) (λ n s. HasRoom D s n) finds_name room_left (cases_by goal rest name x)
  all_room goal rest name x room = all_room_in (cases_by goal rest name x) room
