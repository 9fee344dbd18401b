use Rattle.answers.proofs.Sheets.{cuts_reported}
use Rattle.theorems.proofs.sheet_reports_cuts.Goals as goal

pub returns : goal.returns
returns c = cuts_reported
