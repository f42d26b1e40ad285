use Rattle.script_text.proofs.AnswerLemmas.{spelled_of, in_range_of, stops_of, start_of, offers_in_range_of, offers_lent_of, distinct_of}
use Rattle.script_text.proofs.sections.read_script.Goals as goal

pub returns-clause-spelled : goal.returns-clause-spelled
returns-clause-spelled c = spelled_of c.args.text.now _ c.read_within.ensures

pub returns-clause-in_range : goal.returns-clause-in_range
returns-clause-in_range c = in_range_of c.args.text.now _ c.read_within.ensures

pub returns-clause-distinct : goal.returns-clause-distinct
returns-clause-distinct c = distinct_of c.args.text.now _ c.read_within.ensures

pub returns-clause-stops : goal.returns-clause-stops
returns-clause-stops c = stops_of c.args.text.now _ c.read_within.ensures

pub returns-clause-offers_in_range : goal.returns-clause-offers_in_range
returns-clause-offers_in_range c = offers_in_range_of c.args.text.now _ c.read_within.ensures

pub returns-clause-offers_lent : goal.returns-clause-offers_lent
returns-clause-offers_lent c = offers_lent_of c.args.text.now _ c.requires c.read_within.ensures

pub returns-clause-start : goal.returns-clause-start
returns-clause-start c = start_of c.args.text.now _ c.read_within.ensures
