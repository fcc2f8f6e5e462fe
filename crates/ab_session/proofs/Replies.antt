-- The reply that a theorem is done: what it says.
use Rattle.std.proofs.Common.{◌≡◌, ℕ, List, [], ◌∷◌, refl}
use Rattle.ab_formulas.specs.Declarations.{Declarations, names_at}
use Rattle.ab_logic.specs.declared.world.World.{World}
use Rattle.ab_states.specs.Reply.{completed, admitted, reply_of, done, SpeaksOfNoGoal}
use Rattle.ab_states.specs.declared.reply.Reply.{Reply as Kept}
use Rattle.ab_states.specs.declared.reply.Reply.TheVariants.{Accepted, Completed, Admitted, Shown, Quit, Refused}

-- it is completed where it assumes nothing
pub done_completed : (x : List ℕ) (ns : List (List ℕ)) (y : List ℕ) → done x ns ≡ completed y → (x ≡ y) × (ns ≡ [])
done_completed x [] y e = let same : x ≡ y = cc in (same, refl)
done_completed x (n ∷ ns) y e = absurd (cc)

pub done_admitted : (x : List ℕ) (ns : List (List ℕ)) (y : List ℕ) (ms : List (List ℕ)) → done x ns ≡ admitted y ms → x ≡ y
done_admitted x [] y ms e = absurd (cc)
done_admitted x (n ∷ ns) y ms e = let same : x ≡ y = cc in same

-- and it shows no formula
pub done_speaks : (w : World) (r : Kept) (x : List ℕ) (ns : List (List ℕ)) → reply_of w r ≡ done x ns → SpeaksOfNoGoal w r
done_speaks w Accepted x ns e = tt
done_speaks w (Completed n) x ns e = tt
done_speaks w (Admitted n ms) x ns e = tt
done_speaks w (Shown n F) x [] e = absurd (cc)
done_speaks w (Shown n F) x (m ∷ ns) e = absurd (cc)
done_speaks w Quit x ns e = tt
done_speaks w (Refused r) x ns e = tt

-- no names are those of no places
pub no_names : (D : Declarations) (js : List ℕ) → names_at D js ≡ [] → js ≡ []
no_names D [] e = refl
no_names D (j ∷ js) e = absurd (cc)
