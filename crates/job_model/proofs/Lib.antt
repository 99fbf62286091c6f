mod JobValues
