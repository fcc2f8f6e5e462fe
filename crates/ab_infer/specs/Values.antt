-- What steps have made so far, as functions of the arguments that are still to come. Only private contracts speak of this.
use Rattle.std.specs.Prelude.{◌≡◌, ℕ, List, [], ◌∷◌, ◌++◌, map, codes, Option, MatchOption}
use Rattle.std.specs.List.{All}
use Rattle.ab_term.specs.Types.{Ty}
use Rattle.ab_term.specs.Terms.{Terms, no_terms, terms_of, joined, Read}
use Rattle.ab_term.specs.Expansion.{expansion_of}
use Rattle.ab_norm.specs.ab_types.specs.Entries.{Table, signature}
use Rattle.ab_norm.specs.ab_types.specs.Ids.{HoldsType, type_of}
use Rattle.ab_norm.specs.ab_store.specs.declared.node.TermId.{TermId}
use Rattle.ab_norm.specs.ab_store.specs.Trees.{Contents, Holds, head_reading, tree_of}
use Rattle.ab_norm.specs.ab_store.specs.Naming.{HoldsHead, HeadIsTyped}
use Rattle.ab_meaning.specs.ResolvedNames.{Name}
use Rattle.ab_meaning.specs.Readings.{Making}
use Rattle.ab_meaning.specs.Normal.{left_type, given_all, normal_given}
use Rattle.ab_inference.specs.Sketches.{Sketch, term_of, Fit}
use Rattle.ab_inference.specs.Programs.{Item, Runs}
use Rattle.ab_infer.specs.declared.value.Value.{Value}
use Rattle.ab_infer.specs.declared.value.Value.TheVariants.{Given, Done}

module _ (types : Table) (store : Contents) where
  abbrev pub trees_of : List TermId → Terms ℕ (List ℕ)
  trees_of ts = terms_of (map (tree_of types store) ts)

  -- the value, given these arguments
  abbrev pub means : Value → Terms ℕ (List ℕ) → Read
  means (Given h ty ts) us = expansion_of (codes "x") (left_type (type_of types ty) us) (head_reading types store h) (joined (trees_of ts) us)
  means (Done t) us = given_all (tree_of types store t) us

  -- what the value names is there
  abbrev pub HoldsValue : Value → Type 0
  HoldsValue (Given h ty ts) = HoldsHead store h × HeadIsTyped types h × HoldsType types ty × All (Holds store) ts
  HoldsValue (Done t) = Holds store t

-- the last first
abbrev pub turned : List Value → List Value
turned [] = []
turned (w ∷ ws) = turned ws ++ w ∷ []

-- what the steps make in the end, and what its free names stand for
pub record Whole : Type 0 where
  pub made : Making
  pub names : List Name
  pub expression : Sketch

module _ (types : Table) (store : Contents) (base : ℕ) (v : ℕ → Ty) (x : Whole) where
  -- under whatever names it may stand, and given any arguments, the part of the expression is what the value is
  pub record IsRight (k : Sketch) (w : Value) : Type 0 where
    pub is : (ctx : List ℕ) (n : ℕ) → Fit x.names ctx n k → (us : Terms ℕ (List ℕ)) →
        normal_given (signature types) (map v ctx) (term_of base v x.made k) us ≡ means types store w us

  abbrev pub AreRight : List Sketch → List Value → Type 0
  AreRight [] [] = Unit {0}
  AreRight [] (w ∷ ws) = ⊥
  AreRight (k ∷ ks) [] = ⊥
  AreRight (k ∷ ks) (w ∷ ws) = IsRight k w × AreRight ks ws

  -- the rest of the steps makes the whole, from parts for which the values stand, the last first
  pub record Going (rest : List Item) (ws : List Value) : Type 0 where
    pub parts : List Sketch
    pub runs : Runs rest parts (x.expression ∷ [])
    pub right : AreRight parts ws

-- the last value was taken off, and the term is made of what it was
pub record Popped (types : Table) (old new : Contents) (before after : List Value) (F : Read → Read) (t : TermId) : Type 0 where
  pub value : Value
  pub was : turned before ≡ value ∷ turned after
  pub held : Holds new t
  pub tree : tree_of types new t ≡ F (means types old value no_terms)

-- wherever the step comes next, a value is found, and it stands for what the step makes
abbrev pub Advances : Table → Contents → Contents → ℕ → (ℕ → Ty) → (Whole → Type 0) → (Whole → Item) → List Value → List Value → Option Value → Type 0
Advances types old new base v Where item before after found = (x : Whole) (rest : List Item) → Where x →
    Going types old base v x (item x ∷ rest) (turned before) →
    MatchOption found ⊥ (λ w. Going types new base v x rest (w ∷ turned after))
