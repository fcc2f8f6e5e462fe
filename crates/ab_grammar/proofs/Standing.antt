-- Where a command stands: as its first tokens say, and as its tree does.
use Rattle.std.proofs.Common.{◌≡◌, ℕ, List, ◌++◌, refl, sym, ap, subst}
use Rattle.ab_grammar.specs.declared.head.Head.{Head}
use Rattle.ab_grammar.specs.declared.head.ProofHead.{ProofHead}
use Rattle.ab_grammar.specs.declared.head.Stand.{Stand}
use Rattle.ab_grammar.specs.declared.head.Stand.TheVariants.{Inside}
use Rattle.ab_grammar.specs.Token.{Token}
use Rattle.ab_grammar.specs.Nesting.{Spot}
use Rattle.ab_grammar.specs.Language.{tokens_of, the_key, Accepted}
use Rattle.ab_grammar.specs.CommandTrees as tree
use Rattle.ab_grammar.specs.CommandForms.{One, one, joined, ◌▸◌}
use Rattle.ab_grammar.specs.CommandTable.{Row, kind_row, typed_row, define_row, codefine_row, theorem_row, specification_row, query_row, show_row, quit_row, set_row, back_row, reset_row, undo_row, abort_row, ProofRow, Opens, OpensProof, CommandForm, plain, unlabelled, labelled, CommandText, stand_of, standing, StandsAt, by_head, by_proof_head, by_label}
use Rattle.ab_grammar.proofs.Lists.{tokens_of-append}
use Rattle.ab_grammar.proofs.Heads.{one_head, plain_no_proof, plain_no_label, Labelled}

-- One place

pub one_stand : (ts : List Token) (a b : Stand) → StandsAt ts a → StandsAt ts b → a ≡ b
one_stand _ _ _ (by_head {k = k} h ks o) (by_head j _ p) = ap stand_of (one_head h j k o p)
one_stand _ _ _ (by_head {k = k} h ks o) (by_proof_head j _ p) = absurd (plain_no_proof h j k o p)
one_stand _ _ _ (by_head {k = k} h _ o) (by_label x ks s) = absurd (plain_no_label h k x s o)
one_stand _ _ _ (by_proof_head {k = k} h ks o) (by_head j _ p) = absurd (plain_no_proof j h k p o)
one_stand _ _ _ (by_proof_head h ks o) (by_proof_head j _ p) = refl
one_stand _ _ _ (by_proof_head h _ o) (by_label x ks s) = refl
one_stand _ _ _ (by_label {k = k} x ks s) (by_head j _ p) = absurd (plain_no_label j k x s p)
one_stand _ _ _ (by_label x ks s) (by_proof_head j _ p) = refl
one_stand _ _ _ (by_label x ks s) (by_label y _ t) = refl

-- The place of a command

row_stand : (h : Head) (us : List Spot) (c : tree.Command) → Row h us c → stand_of h ≡ standing c
row_stand _ us _ (kind_row g) = refl
row_stand _ us _ (typed_row g) = refl
row_stand _ us _ (define_row g) = refl
row_stand _ us _ (codefine_row g) = refl
row_stand _ us _ (theorem_row g) = refl
row_stand _ us _ (specification_row g) = refl
row_stand _ us _ (query_row g) = refl
row_stand _ us _ (show_row g) = refl
row_stand _ us _ (quit_row g) = refl
row_stand _ us _ (set_row g) = refl
row_stand _ us _ (back_row g) = refl
row_stand _ us _ (reset_row g) = refl
row_stand _ us _ (undo_row g) = refl
row_stand _ us _ (abort_row g) = refl

module _ (r : List Token) where
  plain_stands : (h : Head) (w : List Spot) (c : tree.Command) → (One (Opens h) ▸ Row h) w c → StandsAt (tokens_of w ++ r) (standing c)
  plain_stands h _ _ (joined {vs = vs} {b = c} (one o) g) = subst (StandsAt _) (row_stand h vs c g) (by_head h _ o)

  proof_stands : (h : ProofHead) (w : List Spot) (c : tree.ProofCommand) → (One (OpensProof h) ▸ ProofRow h) w c → StandsAt (tokens_of w ++ r) Inside
  proof_stands h _ _ (joined (one o) g) = by_proof_head h _ o

  label_stands : (w : List Spot) (d : List ℕ × tree.ProofCommand) → Labelled w d → StandsAt (tokens_of w ++ r) Inside
  label_stands _ _ (joined (joined {a = x} (one s) the_key) g) = by_label x _ s

  form_stands : (w : List Spot) (c : tree.Command) → CommandForm w c → StandsAt (tokens_of w ++ r) (standing c)
  form_stands w c (plain h g) = plain_stands h w c g
  form_stands w _ (unlabelled {c = c} h g) = proof_stands h w c g
  form_stands w _ (labelled {x = x} {c = c} g) = label_stands w (x, c) g

text_stands : (w : List Spot) (c : tree.Command) → CommandText w c → StandsAt (tokens_of w) (standing c)
text_stands _ _ (joined {us = us} {vs = vs} {a = c} g h) = subst (λ q. StandsAt q (standing c)) (sym (tokens_of-append us vs)) (form_stands (tokens_of vs) us c g)

pub command_stands : (ts : List Token) (c : tree.Command) → Accepted CommandText ts c → StandsAt ts (standing c)
command_stands ts c a = subst (λ q. StandsAt q (standing c)) a.tokens (text_stands a.read c a.text)
