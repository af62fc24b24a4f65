use Rattle.script_model.proofs.LineParts.{line_parts, no_feed_within}
use Rattle.script_model.proofs.laws.bytes_begin_with_a_line.Goals as goal

pub returns-clause-parts : goal.returns-clause-parts
returns-clause-parts c = line_parts

pub returns-clause-line : goal.returns-clause-line
returns-clause-line c = no_feed_within
