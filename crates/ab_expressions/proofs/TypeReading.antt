-- Reading a type along a text.
use Rattle.std.proofs.Common.{◌≡◌, ℕ, ◌+◌, ◌<◌, ◌≤◌, List, [], ◌∷◌, length, ap, sym, ◌∙◌, subst, Box, Option}
use Rattle.ab_grammar.specs.Token.{Token}
use Rattle.ab_grammar.specs.Nesting.{Layer, nest, depth_of, outside, limit}
use Rattle.ab_grammar.specs.Language.{TypeExpression}
use Rattle.ab_grammar.proofs.Following.{Followed}
use Rattle.ab_grammar.proofs.Reading.{ReadsOff, StopsAt, NestsAt}
use Rattle.ab_grammar.proofs.Machine.{TypeState, TypeFrame, type_want, type_start, type_step}
use Rattle.ab_grammar.proofs.Readers.{TypeSoFar, type_at_start, type_goes, type_done, type_wrong, type_too_deep, type_other_stuck, type_done_at_end, type_wrong_at_end}
use Rattle.std.specs.Global.{Global}
use Rattle.ab_expressions.specs.declared.text.Text.{Text}
use Rattle.ab_expressions.specs.declared.stop.Stop.{Stop}
use Rattle.ab_expressions.specs.declared.stop.Stop.TheVariants.{Syntax, TooNested, Memory}
use Rattle.ab_expressions.specs.declared.tree.TypeParse.{TypeParse}
use Rattle.ab_expressions.specs.declared.machine.Next.TheVariants.{On, Done, Wrong}
use Rattle.ab_expressions.specs.Reader.{rest, next_or_stop, Refused}
use Rattle.ab_expressions.specs.ReaderSteps.{IsTooDeep, type_state, IsTypeNext}
use Rattle.ab_expressions.specs.SyntaxTrees.{type_of}
use Rattle.ab_expressions.proofs.Reading.{goes_on, no_stop}

pub type_starts : (ks : List Token) (gs : List TypeFrame) (ls : List Layer) → gs ≡ [] → ls ≡ outside → TypeSoFar ks ks (type_want gs) ls
type_starts ks gs ls e f =
    subst (λ (x : List TypeFrame). TypeSoFar ks ks (type_want x) ls) (sym e) (subst (λ (x : List Layer). TypeSoFar ks ks type_start x) (sym f) (type_at_start ks))

module _ (ks : List Token) (s : TypeState) (ls : List Layer) (fs : List TypeFrame) where
  pub type_found : (a : Box TypeParse Global) (r : List Token) → TypeSoFar ks r s ls → IsTypeNext s (next_or_stop r) fs (Done a) → ReadsOff TypeExpression Followed ks (type_of a.value) r
  type_found a [] so_far h = type_done_at_end ks s ls so_far (type_of a.value) h.1
  type_found a (k ∷ r) so_far h = type_done ks k r s ls so_far (type_of a.value) h.0 h.1

  pub type_refused : (r : List Token) → TypeSoFar ks r s ls → IsTypeNext s (next_or_stop r) fs Wrong → StopsAt TypeExpression Followed ks r
  type_refused [] so_far h = type_wrong_at_end ks s ls so_far (no_stop h.1)
  type_refused (k ∷ r) so_far h = type_wrong ks k r s ls so_far h.0 h.1

  module _ (t : Text) (i : ℕ) (so_far : TypeSoFar ks (rest t i) s ls) (m : Option (Box TypeParse Global)) (on : IsTypeNext s (next_or_stop (rest t i)) fs (On m)) where
    abbrev k : Token
    k = next_or_stop (rest t i)

    on_there : (i < length t.tokens.now) × (rest t i ≡ k ∷ rest t (i + 1))
    on_there = goes_on type_step type_other_stuck s (type_state fs m) t i on

    here : TypeSoFar ks (k ∷ rest t (i + 1)) s ls
    here = subst (λ (w : List Token). TypeSoFar ks w s ls) on_there.1 so_far

    pub type_within : i < length t.tokens.now
    type_within = on_there.0

    pub type_nests : (stop : Stop) → IsTooDeep (nest ls k) stop → Refused TypeExpression Followed stop ks (rest t i)
    type_nests Syntax h = absurd h
    type_nests TooNested h =
        subst (λ (w : List Token). NestsAt TypeExpression Followed ks w) (sym on_there.1) (type_too_deep ks k (rest t (i + 1)) s ls here (type_state fs m) on h)
    type_nests (Memory e) h = tt

    pub type_on : (ns : List Layer) (n : ℕ) → ns ≡ nest ls k → n ≡ depth_of ns → n ≤ limit → TypeSoFar ks (rest t (i + 1)) (type_state fs m) ns
    type_on ns n layers depth h =
        subst (λ (w : List Layer). TypeSoFar ks (rest t (i + 1)) (type_state fs m) w) (sym layers)
        (type_goes ks k (rest t (i + 1)) s ls here (type_state fs m) on (subst (λ (d : ℕ). d ≤ limit) (depth ∙ ap depth_of layers) h))
