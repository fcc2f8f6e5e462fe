use Rattle.ab_norm.specs.ab_types.specs.Entries.{signature}
use Rattle.ab_declare.specs.ClauseMeanings.{body_type}
use Rattle.ab_declare.proofs.Answering.{fine_parts}
use Rattle.ab_declare.proofs.Renaming.{first_clause, first_kept, one_clause}
use Rattle.ab_declare.proofs.clause_laws.numbers_make_no_difference.Goals as goal

pub returns : goal.returns
returns g t c A n e k table found kept =
    let fine = fine_parts t table c e found in
    let B = body_type A c.body in (
      first_clause (signature t) n e A B fine.0 fine.1 k kept,
      first_kept (signature t) n e A B fine.0 fine.1 k kept,
      one_clause (signature t) n e A B fine.0 fine.1 k kept,
    )
