use Rattle.std.proofs.Common.{refl, ap}
use Rattle.ab_syntax.specs.ab_expressions.specs.Items.{list_of}
use Rattle.ab_states.specs.ab_specification.specs.ab_declare.specs.declared.refusal.Refusal.TheVariants.{Syntax, TooNested, Circular}
use Rattle.ab_sigmod.specs.FileTexts.{syntax, too_nested, wrong_title}
use Rattle.ab_sigmod.specs.FileOrder.{file_missing, file_fault, file_too_long, text_fault, circular, too_many_files}
use Rattle.ab_sigmod.specs.Outcomes.{fault_of}
use Rattle.ab_session.proofs.refusals.files_unread.Goals as goal

pub returns-in-FileMissing : goal.returns-in-FileMissing
returns-in-FileMissing c = (file_missing c.in-FileMissing.name, ap fault_of c.in-FileMissing.is, refl)

pub returns-in-FileFault : goal.returns-in-FileFault
returns-in-FileFault c = (file_fault c.in-FileFault.name, ap fault_of c.in-FileFault.is, refl)

pub returns-in-FileTooLong : goal.returns-in-FileTooLong
returns-in-FileTooLong c = (file_too_long c.in-FileTooLong.name, ap fault_of c.in-FileTooLong.is, refl)

pub returns-in-Syntax : goal.returns-in-Syntax
returns-in-Syntax c = (text_fault c.in-Syntax.name (syntax c.in-Syntax.place), ap fault_of c.in-Syntax.is, ap Syntax c.place_in.ensures)

pub returns-in-TooNested : goal.returns-in-TooNested
returns-in-TooNested c = (text_fault c.in-TooNested.name (too_nested c.in-TooNested.place), ap fault_of c.in-TooNested.is, ap TooNested c.place_in-in-TooNested.ensures)

pub returns-in-WrongTitle : goal.returns-in-WrongTitle
returns-in-WrongTitle c = (text_fault c.in-WrongTitle.name wrong_title, ap fault_of c.in-WrongTitle.is, refl)

pub returns-in-Circular : goal.returns-in-Circular
returns-in-Circular c = (circular (list_of c.in-Circular.names), ap fault_of c.in-Circular.is, ap Circular c.from_names.ensures)

pub returns-in-TooManyFiles : goal.returns-in-TooManyFiles
returns-in-TooManyFiles c = (too_many_files c.in-TooManyFiles.name, ap fault_of c.in-TooManyFiles.is, refl)
