use Rattle.ab_command.proofs.Sayings.{fits_told, fits_untold, told_elsewhere}
use Rattle.ab_command.proofs.command_reader.fits.Goals as goal

pub returns-in-Some-clause-here : goal.returns-in-Some-clause-here
returns-in-Some-clause-here c = λ t. fits_told c.args.bytes.now c.args.tokens.now c.args.is_open c.requires c.stand_of.result c.stand_of.ensures c.in-Some.stand c.in-Some.is (c.stands_here.ensures.0 t)

pub returns-in-Some-clause-elsewhere : goal.returns-in-Some-clause-elsewhere
returns-in-Some-clause-elsewhere c = λ f. told_elsewhere c.args.bytes.now c.args.tokens.now c.args.is_open c.requires c.stand_of.result c.stand_of.ensures c.in-Some.stand c.in-Some.is
    (λ h. let x = c.stands_here.ensures.1 h in let y = f in absurd (cc))

pub returns-in-None-clause-here : goal.returns-in-None-clause-here
returns-in-None-clause-here c = λ t. fits_untold c.args.bytes.now c.args.tokens.now c.args.is_open c.requires c.stand_of.result c.stand_of.ensures c.in-None.is
