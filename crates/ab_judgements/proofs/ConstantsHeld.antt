-- The nominal constants of a judgement are those of its terms.
use Rattle.std.proofs.Common.{◌≡◌, [], ◌∷◌, ◌++◌, map, Option, Some, None, ap, append-nil}
use Rattle.std.specs.Option.{option_map}
use Rattle.ab_term.specs.Terms.{terms_of}
use Rattle.ab_term.specs.Names.{support, support_of_all}
use Rattle.ab_norm.specs.ab_store.specs.declared.node.TermId.{TermId}
use Rattle.ab_unifiers.specs.Choices.{in_order}
use Rattle.ab_logic.specs.Worlds.{read}
use Rattle.ab_logic.specs.declared.world.World.{World}
use Rattle.ab_theory.specs.Judgements.{constants_of, support_of_focus}
use Rattle.ab_judgement_forms.specs.declared.judgements.Judgement.{Judgement as Kept}
use Rattle.ab_judgement_forms.specs.JudgementReadings.{judgement_read, focus_in, terms_in}

module _ (w : World) where
  behind_list : (f : Option TermId) (g : TermId) → support_of_all (terms_of (map (read w) (focus_in f ++ g ∷ []))) ≡ support_of_focus (option_map (read w) f) ++ support (read w g)
  behind_list None g = append-nil (support (read w g))
  behind_list (Some F) g = ap (λ l. support (read w F) ++ l) (append-nil (support (read w g)))

  pub held_in : (j : Kept) → in_order (support_of_all (terms_of (map (read w) (terms_in j)))) ≡ constants_of (judgement_read w j)
  held_in j = ap (λ l. in_order (support (read w j.context) ++ l)) (behind_list j.focus j.goal)
