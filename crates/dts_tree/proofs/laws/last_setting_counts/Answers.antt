use Rattle.dts_tree.proofs.SettingLemmas.{last_setting}
use Rattle.dts_tree.proofs.laws.last_setting_counts.Goals as goal

pub returns : goal.returns
returns c = last_setting
