use Rattle.std.proofs.Common.{rules}
use Rattle.ab_sigmod.proofs.Chains.{none_there, none_given, too_many_bytes}
use Rattle.ab_sigmod.proofs.spec_files.load.Goals as goal

pub returns-in-Err-Missing : goal.returns-in-Err-Missing
returns-in-Err-Missing g c = λ f h. none_there c.args.name.now _ f c.in_ok-copy-in-Err-Missing.ensures (search rules) h

pub returns-in-Err-Failed : goal.returns-in-Err-Failed
returns-in-Err-Failed g c = λ f h. none_given c.args.name.now _ f c.in_ok-copy-in-Err-Failed.ensures (search rules) h

pub returns-in-Err-TooLong : goal.returns-in-Err-TooLong
returns-in-Err-TooLong g c = λ f h. too_many_bytes c.args.name.now _ f c.in_ok-copy-in-Err-TooLong.ensures (search rules) h
