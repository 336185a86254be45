use Rattle.std.proofs.Common.{sym}
use Rattle.whole_parts.proofs.Opened.{tells_then}
use Rattle.whole_parts.proofs.desk_law.Goals as goal

pub returns-clause-lives : goal.returns-clause-lives
returns-clause-lives c file limits lay m rs d t ranges first ok are at = (tells_then file limits ok lay m rs d ranges first are at).lives_are t

pub returns-clause-living : goal.returns-clause-living
returns-clause-living c file limits lay m rs d ranges first ok are at = (tells_then file limits ok lay m rs d ranges first are at).live_are

pub returns-clause-threads : goal.returns-clause-threads
returns-clause-threads c file limits lay m rs d ranges first ok are at = sym (tells_then file limits ok lay m rs d ranges first are at).made_are

pub returns-clause-output : goal.returns-clause-output
returns-clause-output c file limits lay m rs d ranges first ok are at = sym (tells_then file limits ok lay m rs d ranges first are at).output_is

pub returns-clause-ended : goal.returns-clause-ended
returns-clause-ended c file limits lay m rs d ranges first ok are at = sym (tells_then file limits ok lay m rs d ranges first are at).ended_is
