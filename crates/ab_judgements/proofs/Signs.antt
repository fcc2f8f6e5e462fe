-- The mark of a subject, as it reads.
use Rattle.std.proofs.Common.{◌≡◌, List, Option, Some, None, sym, ap, ◌∙◌}
use Rattle.std.specs.Option.{option_map}
use Rattle.ab_theory.specs.Judgements.{Judgement}
use Rattle.ab_theory.specs.SpecRules.{SpecRule}
use Rattle.ab_theory.specs.Atoms.{Defined}
use Rattle.ab_theory.specs.Subjects.{Subject, an_atom, a_judgement, sign_of}

pub atom_sign : (d : Defined) (x : Subject) → Some (an_atom d) ≡ Some x → d.sign ≡ sign_of x
atom_sign d x e = let same : an_atom d ≡ x = cc in ap sign_of same

pub judgement_sign : (j : Judgement) (o : Option (List SpecRule)) (x : Subject) → option_map (a_judgement j) o ≡ Some x → j.sign ≡ sign_of x
judgement_sign j None x e = absurd (cc)
judgement_sign j (Some rs) x e = let same : a_judgement j rs ≡ x = cc in ap sign_of same
