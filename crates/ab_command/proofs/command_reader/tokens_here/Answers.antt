use Rattle.ab_command.proofs.command_reader.tokens_here.Goals as goal

pub returns-in-Err-BadByte-clause-unread : goal.returns-in-Err-BadByte-clause-unread
returns-in-Err-BadByte-clause-unread c = c.no_token.ensures c.args.is_open

pub returns-in-Err-OpenString-clause-unread : goal.returns-in-Err-OpenString-clause-unread
returns-in-Err-OpenString-clause-unread c = c.no_token-in-Err-OpenString.ensures c.args.is_open

pub returns-in-Err-OpenComment-clause-unread : goal.returns-in-Err-OpenComment-clause-unread
returns-in-Err-OpenComment-clause-unread c = c.no_token-in-Err-OpenComment.ensures c.args.is_open
