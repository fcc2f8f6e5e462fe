-- A sentence that a search proves has a derivation.
use Rattle.std.proofs.Common.{[], refl, sym, ap, subst}
use Rattle.ab_term.specs.Names.{support, HasOneTypeEach}
use Rattle.ab_term.specs.Terms.{Read}
use Rattle.ab_term.proofs.Lists.{Contains-none}
use Rattle.ab_unifiers.specs.Member.{HasMember}
use Rattle.ab_formulas.specs.Declarations.{Declarations, HaveSentences, HaveDefinitions, signature_in}
use Rattle.ab_formulas.specs.Formulas.{IsSentence}
use Rattle.ab_formulas.specs.Programs.{HavePrograms}
use Rattle.ab_formulas.specs.Sequents.{Sequent, IsSequent}
use Rattle.ab_theory.specs.Derivations.{Derivation, IsDerivation, proves, goals_admitted}
use Rattle.ab_theory.proofs.Rooted.{first_sequent}
use Rattle.ab_search_proofs.specs.Proved.{Proved}
use Rattle.ab_search_proofs.proofs.Begins.{begins}
use Rattle.ab_search_proofs.proofs.Derived.{derived}

pub sentence_derived : (D : Declarations) → HaveSentences D → HaveDefinitions D → HavePrograms D → HasMember (signature_in D) → (F : Read) → IsSentence (signature_in D) F → Proved D [] [] F → (d : Derivation) × IsDerivation D F d
sentence_derived D sentences definitions programs has F is p =
    let one : HasOneTypeEach (support F) = subst HasOneTypeEach (sym is.nameless) (λ a b m k e. absurd (Contains-none a m)) in
    let s : Sequent = proves F 0 in
    let sequent : IsSequent D s = first_sequent D F 0 is.formula is.closed one in
    let r = derived D sentences definitions programs has [] [] F p [] refl s sequent (begins D s sequent) in
    (r.0, record { tree = record { sentence = is; valid = (r.1).valid; closed = (r.1).closed; derives = (r.1).derives }; whole = ap goals_admitted (r.1).nothing_owed })
