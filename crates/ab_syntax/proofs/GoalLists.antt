-- The goals of a clause, read one by one and joined by `&` from the left.
use Rattle.std.proofs.Common.{◌≡◌, List, [], ◌∷◌, ◌++◌, Option, Some, refl, ap, sym, ◌∙◌, subst}
use Rattle.ab_grammar.specs.declared.Infix.TheVariants.{With}
use Rattle.ab_grammar.specs.Token.{Token, comma}
use Rattle.ab_grammar.specs.Tree.{Tree, joined}
use Rattle.ab_grammar.specs.FileTable.{one_goal, goal_of, Goals}
use Rattle.ab_grammar.proofs.Following.{first, Followed, BeforeStop}
use Rattle.ab_grammar.specs.Language.{Expression}
use Rattle.ab_grammar.proofs.Reading.{ReadsOff}
use Rattle.ab_grammar.proofs.FileRows.{goals_joined}
use Rattle.ab_expressions.specs.declared.stop.Stop.{Stop}
use Rattle.ab_syntax.specs.Lists.{goals}
use Rattle.ab_expressions.specs.Reader.{Refused}
use Rattle.ab_syntax.proofs.Passing.{refused_on}
use Rattle.ab_syntax.proofs.Repeating.{ItemsTo, first_item, no_first_item, next_item, no_next_item, last_item}

one_goal_on : (g : Tree) (gs : List Tree) (h : Tree) → one_goal g (gs ++ h ∷ []) ≡ joined With (one_goal g gs) h
one_goal_on g [] h = refl
one_goal_on g (i ∷ gs) h = one_goal_on (joined With g i) gs h

goal_on : (v : List Tree) (g h : Tree) → goal_of v ≡ Some g → goal_of (v ++ h ∷ []) ≡ Some (joined With g h)
goal_on [] g h e = absurd (cc)
goal_on (i ∷ v) g h e = let same : one_goal i v ≡ g = cc in ap Some (one_goal_on i v h ∙ ap (λ (t : Tree). joined With t h) same)

-- goals were read from ks up to here, of which this is made
pub record GoalsTo (ks : List Token) (g : Tree) (ms : List Token) : Type 0 where
  pub goals_read : List Tree
  pub made : goal_of goals_read ≡ Some g
  pub items : ItemsTo goals ks goals_read ms

module _ (ks : List Token) where
  pub first_goal : (ms : List Token) (g : Tree) → ReadsOff Expression Followed ks g ms → GoalsTo ks g ms
  first_goal ms g p = record { goals_read = g ∷ []; made = refl; items = first_item goals ks ms g p }

  pub no_first_goal : (s : Stop) (rest : List Token) → Refused Expression Followed s ks rest → Refused Goals BeforeStop s ks rest
  no_first_goal s rest r = refused_on (goals_joined ks) s rest (no_first_item goals ks s rest r)

  module _ (ms ls : List Token) (g : Tree) (e : ms ≡ comma ∷ ls) (so_far : GoalsTo ks g ms) where
    pub next_goal : (ns : List Token) (h t : Tree) → t ≡ joined With g h → ReadsOff Expression Followed ls h ns → GoalsTo ks t ns
    next_goal ns h t same p = record {
      goals_read = so_far.goals_read ++ h ∷ [];
      made = goal_on so_far.goals_read g h so_far.made ∙ ap Some (sym same);
      items = next_item goals ks ms ls ns so_far.goals_read h e p so_far.items;
    }

    pub no_next_goal : (s : Stop) (rest : List Token) → Refused Expression Followed s ls rest → Refused Goals BeforeStop s ks rest
    no_next_goal s rest r = refused_on (goals_joined ks) s rest (no_next_item goals ks ms ls rest so_far.goals_read s e r so_far.items)

  pub last_goal : (ms : List Token) (g : Tree) → (first ms ≡ Some comma → ⊥) → GoalsTo ks g ms → ReadsOff Goals BeforeStop ks (Some g) ms
  last_goal ms g n so_far =
      subst (λ (o : Option Tree). ReadsOff Goals BeforeStop ks o ms) so_far.made
      ((goals_joined ks).reads so_far.goals_read ms (last_item goals ks ms so_far.goals_read n so_far.items))
