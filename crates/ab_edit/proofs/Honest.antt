-- Tests that stay, and commands of which nothing else is told.
use Rattle.std.proofs.Common.{◌≡◌, ℕ, Bool, true, List, [], ◌∷◌, ◌++◌, ap, ◌∙◌, subst, append_assoc, inl, inr}
use Rattle.ab_io.specs.Replays.{Test, SameTest}
use Rattle.ab_lex.specs.Commands.{Item, command, long}
use Rattle.ab_edit.specs.Prefixes.{IsLongestKept, IsToldOf, IsNextTold, IsEnd}
use Rattle.ab_edit.specs.State.{IsHonest, IsHalt, IsHalted}
use Rattle.ab_edit.proofs.Lists.{at_end_or_before}

pub same_more : (t u v : Test) → SameTest t u → SameTest u v → SameTest t v
same_more t u v f g kept c answer = (λ h. (g kept c answer).0 ((f kept c answer).0 h), λ h. (f kept c answer).1 ((g kept c answer).1 h))

pub same_test : (t : Test) → SameTest t t
same_test t kept c answer = (λ h. h, λ h. h)

pub honest_on : (t u : Test) (kept : List (List ℕ)) → SameTest t u → IsHonest t kept → IsHonest u kept
honest_on t u kept s h before behind c e answer told = h before behind c e answer ((s before c answer).1 told)

pub honest_none : (t : Test) → IsHonest t []
honest_none t [] behind c e answer told = cc
honest_none t (x ∷ before) behind c e answer told = cc

pub honest_before : (t : Test) (ks taken : List (List ℕ)) → IsHonest t (ks ++ taken) → IsHonest t ks
honest_before t ks taken h before behind c e answer told =
    h before (behind ++ taken) c (ap (λ q. q ++ taken) e ∙ append_assoc before (c ∷ behind) taken) answer told

pub honest_more : (t : Test) (ks : List (List ℕ)) (c : List ℕ) → IsHonest t ks → ((answer : Bool) → t ks c answer → answer ≡ true) → IsHonest t (ks ++ c ∷ [])
honest_more t ks c h last before behind b e answer told =
    elim (at_end_or_before ks c before behind b e) [
      | inl f ↦ last answer (subst (λ q. t q c answer) f.0 (subst (λ q. t before q answer) f.1 told))
      | inr f ↦ h before f.0 b f.1 answer told
    ]

-- where it is told, the longest prefix is kept

end_of : (t : Test) (kept : List (List ℕ)) (later : List Item) → IsHalt t kept later → IsNextTold t kept later → IsEnd t kept later
end_of t kept [] h n = tt
end_of t kept (long ∷ later) h n = tt
end_of t kept (command c ∷ later) h n = subst (λ b. t kept c b) (h n.0 n.1) n.1

pub longest : (t : Test) (text : List ℕ) (kept : List (List ℕ)) → IsHonest t kept → IsHalted t text kept → IsToldOf t text kept → IsLongestKept t text kept
longest t text kept h s told = record {
  are_kept = λ before behind c e. let a = told.each before behind c e in subst (λ b. t before c b) (h before behind c e a.0 a.1) a.1;
  stopped = record { later = s.later; begins = s.begins; end = end_of t kept s.later s.halt (told.next s.later s.begins) };
}
