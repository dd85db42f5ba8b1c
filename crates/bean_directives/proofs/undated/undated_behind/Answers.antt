use Rattle.bean_directives.proofs.undated.undated_behind.Goals as goal

pub returns-in-Option : goal.returns-in-Option
returns-in-Option c = rw c.in-Option.is c.option.ensures

pub returns-in-Include : goal.returns-in-Include
returns-in-Include c = rw c.in-Include.is c.include.ensures

pub returns-in-Plugin : goal.returns-in-Plugin
returns-in-Plugin c = rw c.in-Plugin.is c.plugin.ensures

pub returns-in-PushTag : goal.returns-in-PushTag
returns-in-PushTag c = rw c.in-PushTag.is c.push_tag.ensures

pub returns-in-PopTag : goal.returns-in-PopTag
returns-in-PopTag c = rw c.in-PopTag.is c.pop_tag.ensures

pub returns-in-PushMeta : goal.returns-in-PushMeta
returns-in-PushMeta c = rw c.in-PushMeta.is c.push_entry.ensures

pub returns-in-PopMeta : goal.returns-in-PopMeta
returns-in-PopMeta c = rw c.in-PopMeta.is c.pop_key.ensures
