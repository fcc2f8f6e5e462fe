-- Reading an expression along a text.
use Rattle.std.proofs.Common.{◌≡◌, ℕ, ◌+◌, ◌<◌, ◌≤◌, List, [], ◌∷◌, length, ap, sym, ◌∙◌, subst, Box}
use Rattle.ab_grammar.specs.Token.{Token}
use Rattle.ab_grammar.specs.Nesting.{Layer, nest, depth_of, outside, limit}
use Rattle.ab_grammar.specs.Language.{Expression}
use Rattle.ab_grammar.proofs.Following.{Followed}
use Rattle.ab_grammar.proofs.Reading.{ReadsOff, StopsAt, NestsAt}
use Rattle.ab_grammar.proofs.Machine.{State, Frame, want, start, step}
use Rattle.ab_grammar.proofs.Readers.{SoFar, at_start, goes, done, wrong, too_deep, other_stuck, done_at_end, wrong_at_end}
use Rattle.std.specs.Global.{Global}
use Rattle.ab_expressions.specs.declared.text.Text.{Text}
use Rattle.ab_expressions.specs.declared.stop.Stop.{Stop}
use Rattle.ab_expressions.specs.declared.stop.Stop.TheVariants.{Syntax, TooNested, Memory}
use Rattle.ab_expressions.specs.declared.machine.State.{State as Read}
use Rattle.ab_expressions.specs.declared.tree.Parse.{Parse}
use Rattle.ab_expressions.specs.declared.machine.Next.TheVariants.{On, Done, Wrong}
use Rattle.ab_expressions.specs.Reader.{rest, next_or_stop, Refused}
use Rattle.ab_expressions.specs.ReaderSteps.{IsTooDeep}
use Rattle.ab_expressions.specs.States.{state_in, IsNext}
use Rattle.ab_expressions.specs.SyntaxTrees.{tree_of}
use Rattle.ab_expressions.proofs.Reading.{goes_on, no_stop}

pub expression_starts : (ks : List Token) (gs : List Frame) (ls : List Layer) → gs ≡ [] → ls ≡ outside → SoFar ks ks (want gs) ls
expression_starts ks gs ls e f =
    subst (λ (x : List Frame). SoFar ks ks (want x) ls) (sym e) (subst (λ (x : List Layer). SoFar ks ks start x) (sym f) (at_start ks))

module _ (ks : List Token) (s : State) (ls : List Layer) (fs : List Frame) where
  pub expression_found : (a : Box Parse Global) (r : List Token) → SoFar ks r s ls → IsNext s (next_or_stop r) fs (Done a) → ReadsOff Expression Followed ks (tree_of a.value) r
  expression_found a [] so_far h = done_at_end ks s ls so_far (tree_of a.value) h.1
  expression_found a (k ∷ r) so_far h = done ks k r s ls so_far (tree_of a.value) h.0 h.1

  pub expression_refused : (r : List Token) → SoFar ks r s ls → IsNext s (next_or_stop r) fs Wrong → StopsAt Expression Followed ks r
  expression_refused [] so_far h = wrong_at_end ks s ls so_far (no_stop h.1)
  expression_refused (k ∷ r) so_far h = wrong ks k r s ls so_far h.0 h.1

  module _ (t : Text) (i : ℕ) (so_far : SoFar ks (rest t i) s ls) (m : Read) (on : IsNext s (next_or_stop (rest t i)) fs (On m)) where
    abbrev k : Token
    k = next_or_stop (rest t i)

    on_there : (i < length t.tokens.now) × (rest t i ≡ k ∷ rest t (i + 1))
    on_there = goes_on step other_stuck s (state_in fs m) t i on

    here : SoFar ks (k ∷ rest t (i + 1)) s ls
    here = subst (λ (w : List Token). SoFar ks w s ls) on_there.1 so_far

    pub expression_within : i < length t.tokens.now
    expression_within = on_there.0

    pub expression_nests : (stop : Stop) → IsTooDeep (nest ls k) stop → Refused Expression Followed stop ks (rest t i)
    expression_nests Syntax h = absurd h
    expression_nests TooNested h =
        subst (λ (w : List Token). NestsAt Expression Followed ks w) (sym on_there.1) (too_deep ks k (rest t (i + 1)) s ls here (state_in fs m) on h)
    expression_nests (Memory e) h = tt

    pub expression_on : (ns : List Layer) (n : ℕ) → ns ≡ nest ls k → n ≡ depth_of ns → n ≤ limit → SoFar ks (rest t (i + 1)) (state_in fs m) ns
    expression_on ns n layers depth h =
        subst (λ (w : List Layer). SoFar ks (rest t (i + 1)) (state_in fs m) w) (sym layers)
        (goes ks k (rest t (i + 1)) s ls here (state_in fs m) on (subst (λ (d : ℕ). d ≤ limit) (depth ∙ ap depth_of layers) h))
