use Rattle.bean_includes.proofs.IncludesFacts.{includes_are_settings, one_list_of_includes}
use Rattle.bean_includes.proofs.laws.include_lines_are_settings.Goals as goal

pub returns-clause-one : goal.returns-clause-one
returns-clause-one c = one_list_of_includes

pub returns-clause-settings : goal.returns-clause-settings
returns-clause-settings c = includes_are_settings
