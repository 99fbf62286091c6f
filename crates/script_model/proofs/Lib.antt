mod ScriptValues
