-- `sampling::settings_in_range`.
use Rattle.sampling.proofs.Turns.{all_found}
use Rattle.sampling.proofs.settings.settings_in_range.Goals as goal

pub returns : goal.returns
returns c =
    all_found c.args.settings.now c.setting_in_range.ensures c.setting_in_range-2.ensures c.setting_in_range-3.ensures
    c.setting_in_range-4.ensures c.setting_in_range-5.ensures c.setting_in_range-6.ensures c.setting_in_range-7.ensures
    c.setting_in_range-8.ensures
